-- Laws of `Fits`, `Feasible` and `Sorted`.
use Prim.Native.Nat.{ℕ, ◌≤◌}
use mathlib.Core.Path.{◌≡◌, refl, ap}
use mathlib.Core.List.{List, [], ◌∷◌, ◌++◌, map, reverse_aux}
use native.Mathlib.Nat.{mul-le-mul_left, le_trans}
use native.Mathlib.Omega.{arith}
use Rattle.response.specs.declared.Row.{Row}
use Rattle.response.specs.Need.{ceil, work, need, Spaced}
use Rattle.response.specs.Right.{HasResponse}
use Rattle.response.proofs.Laws.Need.{ceil_least, ceil_pos}
use Rattle.response.proofs.Laws.Trials.{found_least, enough_found}
use Rattle.schedule.specs.Lists.{Every, ◌∈◌}
use Rattle.schedule.specs.Feasible.{Apart, Constrained, Fits, FeasibleUnder, Table, Sorted}
use Rattle.schedule.proofs.Lists.{every_insert, every_map}
use Rattle.schedule.proofs.Work.{work_append}

-- A row that fits has a p of at least 1, so each of a feasible table has.
pub fits_apart : (x : Row) (above : List Row) → Fits x above → Constrained x → Apart x
fits_apart x above f con = omega (arith, f.positive, f.within)

pub feasible_apart : (above rows : List Row) → FeasibleUnder above rows → Every Constrained rows → Every Apart rows
feasible_apart above [] f con = tt
feasible_apart above (x ∷ rows) f con =
    (fits_apart x above f.0 con.0, feasible_apart (x ∷ above) rows f.1 con.1)

pub table_apart : {K : Type 0} (row : K → Row) (ks : List K) → Table (map row ks) → (k : K) → k ∈ ks → Apart (row k)
table_apart row ks table =
    every_map Apart row ks (feasible_apart [] (map row ks) table.feasible table.constrained)

-- A row fits exactly if the calculation finds a response within its delay.
pub response_fits : (x : Row) (above : List Row) → 1 ≤ x.c → Spaced above → HasResponse x.c above x.delay → Fits x above
response_fits x above some sp h =
    let l : _ = found_least x.c above x.delay some sp h.length h.trials h.found in
    record { r = h.length; positive = l.positive; within = l.within; enough = l.enough }

pub fits_response : (x : Row) (above : List Row) → 1 ≤ x.c → Spaced above → Fits x above → HasResponse x.c above x.delay
fits_response x above some sp f = enough_found x.c above x.delay some sp f.r f.positive f.within f.enough

-- what fits below more fits below fewer; so the order of the rows above is of no account
pub fits_fewer : (x : Row) (above fewer : List Row) → ((r : ℕ) → work fewer r ≤ work above r) → Fits x above → Fits x fewer
unfolding need
fits_fewer x above fewer h f =
    record { r = f.r; positive = f.positive; within = f.within; enough = omega (arith, h f.r, f.enough) }

-- within r ≤ p of y, y is counted once below x, and x at least once below y
pub need_swap : (x y : Row) (above : List Row) (r : ℕ) → 1 ≤ r → r ≤ y.p → Apart x
    → need x.c (y ∷ above) r ≤ need y.c (x ∷ above) r
unfolding need work
need_swap x y above r pos hy hx =
    let once : ceil r y.p ≤ 1 = ceil_least r y.p 1 (le_trans pos hy) (omega arith) in
    omega (arith, mul-le-mul_left y.c once, mul-le-mul_left x.c (ceil_pos r x.p hx pos))

pub need_last : (own : ℕ) (above : List Row) (x : Row) (r : ℕ) → need own (above ++ (x ∷ [])) r ≡ need own (x ∷ above) r
unfolding need work
need_last own above x r = omega (arith, work_append above (x ∷ []) r)

-- rows that each fit, however the list is split before them
pub feasible_splits : (above rows : List Row)
    → ((before after : List Row) (x : Row) → rows ≡ before ++ (x ∷ after) → Fits x (reverse_aux before above))
    → FeasibleUnder above rows
feasible_splits above [] each = tt
feasible_splits above (x ∷ rows) each =
    (each [] rows x refl, feasible_splits (x ∷ above) rows (λ before after y e. each (x ∷ before) after y (ap (λ l. x ∷ l) e)))

-- a row put in where it fits, and below which the others still do
pub feasible_insert : (above xs ys : List Row) (x : Row) → FeasibleUnder above (xs ++ ys) → Fits x (reverse_aux xs above)
    → FeasibleUnder (x ∷ reverse_aux xs above) ys → FeasibleUnder above (xs ++ (x ∷ ys))
feasible_insert above [] ys x f fits rest = (fits, rest)
feasible_insert above (y ∷ xs) ys x f fits rest = (f.0, feasible_insert (y ∷ above) xs ys x f.1 fits rest)

pub sorted_insert : (xs ys : List Row) (x : Row) → Sorted (xs ++ ys) → Every (λ y. y.delay ≤ x.delay) xs
    → Every (λ y. x.delay ≤ y.delay) ys → Sorted (xs ++ (x ∷ ys))
sorted_insert [] ys x s above below = (below, s)
sorted_insert (y ∷ xs) ys x s above below =
    (every_insert (λ z. y.delay ≤ z.delay) xs ys x s.0 above.0, sorted_insert xs ys x s.1 above.1 below)
