-- Theorem A: in a feasible table the demand of any stretch of time is at most its length. This is what earliest deadline
-- first needs (the processor demand test), from a test made for fixed priorities.
use Prim.Native.Nat.{ℕ, suc, ◌+◌, ◌-◌, ◌*◌, ◌≤◌, ◌<◌}
use mathlib.Core.Path.{◌≡◌}
use mathlib.Core.List.{List, [], ◌∷◌}
use native.Mathlib.Nat.{mul-le-mul_left}
use native.Mathlib.Decide.{dec_le}
use native.Mathlib.Omega.{arith}
use Rattle.response.specs.declared.Row.{Row}
use Rattle.response.specs.Need.{ceil, work, need, Spaced}
use Rattle.response.proofs.Laws.Need.{ceil_covers}
use Rattle.schedule.specs.Lists.{Every}
use Rattle.schedule.specs.Feasible.{Constrained, Fits, FeasibleUnder, Feasible}
use Rattle.schedule.specs.Due.{jobs, demand, total, due}
use Rattle.schedule.proofs.Work.{work_zero, work_repeat}
use Rattle.schedule.proofs.Due.{jobs_counted}
use Rattle.schedule.proofs.Feasible.{fits_apart}

module _ (s x : ℕ) where
  -- the induction's claim: the demand is at most what the rows ask for in u slots, and the slots that are left after u
  Covered : List Row → Type 0
  Covered rows = (u : ℕ) → u ≤ x - s → due rows s x + u ≤ work rows u + (x - s)

  -- One row more, below the others. Of its messages that are due, m are among what u slots ask for. Each of the others
  -- takes r slots, together with all that the rows above ask for meanwhile.
  module _ (y : Row) (above : List Row) (known : Covered above) (sp : Spaced above) (f : Fits y above)
      (con : Constrained y) where
    beyond : (u m g : ℕ) → u ≤ m * y.p → s + y.delay + (m + g) * y.p ≤ x
        → y.c * (m + suc g) + due above s x + u ≤ y.c * m + work above u + (x - s)
    unfolding Covered need
    beyond u m g first last =
        let short : f.r ≤ y.p = omega (arith, f.within) in
        let step : g * f.r ≤ g * y.p = mul-le-mul_left g short in
        let inside : u + suc g * f.r ≤ x - s = omega (arith, f.within) in
        omega (arith, known (u + suc g * f.r) inside, work_repeat y.c above f.r sp f.enough u (suc g))

    covered_more : Covered (y ∷ above)
    unfolding Covered total demand work
    covered_more u hu = go (jobs (s + y.delay) x y.p) (ceil u y.p) counted (ceil_covers u y.p pos) (dec_le _ _)
      where
        pos : 1 ≤ y.p
        pos = fits_apart y above f con

        counted : (k : ℕ) → k < jobs (s + y.delay) x y.p → s + y.delay + k * y.p ≤ x
        counted k = jobs_counted (s + y.delay) x y.p k pos

        go : (n m : ℕ) → ((k : ℕ) → k < n → s + y.delay + k * y.p ≤ x) → u ≤ m * y.p → Dec (n ≤ m)
            → y.c * n + due above s x + u ≤ y.c * m + work above u + (x - s)
        go n m last first (yes h) = omega (arith, mul-le-mul_left y.c h, known u hu)
        go n m last first (no h) =
            let g : ℕ = n - m - 1 in
            let e : n ≡ m + suc g = omega arith in
            rw e (beyond u m g first (last (m + g) (omega arith)))

  all_covered : (above rows : List Row) → Covered above → Spaced above → FeasibleUnder above rows → Every Constrained rows
      → due above s x + due rows s x ≤ x - s
  unfolding Covered total
  all_covered above [] known sp f con = omega (arith, known 0 (omega arith), work_zero above sp)
  all_covered above (y ∷ rows) known sp f con =
      let pos : 1 ≤ y.p = fits_apart y above f.0 con.0 in
      let below : _ = all_covered (y ∷ above) rows (covered_more y above known sp f.0 con.0) (pos, sp) f.1 con.1 in
      omega (arith, below)

-- Theorem A: the demand of the stretch from s to x is at most its length. (At s = 0: what can be due by x is at most x.)
pub demand_bound : (rows : List Row) (s x : ℕ) → Feasible rows → Every Constrained rows → due rows s x ≤ x - s
unfolding Covered total
demand_bound rows s x f con = omega (arith, all_covered s x [] rows (λ u h. omega arith) tt f con)
