-- Laws of `ceil` and `work` for the demand: what grows no faster than its length.
use Prim.Native.Nat.{ℕ, zero, suc, ◌+◌, ◌*◌, ◌≤◌}
use mathlib.Core.Path.{◌≡◌}
use mathlib.Core.List.{List, [], ◌∷◌, ◌++◌, reverse_aux}
use native.Mathlib.Nat.{mul-le-mul_left}
use native.Mathlib.Omega.{arith}
use Rattle.response.specs.declared.Row.{Row}
use Rattle.response.specs.Need.{ceil, work, Spaced}
use Rattle.response.proofs.Laws.Need.{ceil_least, ceil_covers, work_mono}

pub ceil_add : (a b p : ℕ) → 1 ≤ p → ceil (a + b) p ≤ ceil a p + ceil b p
ceil_add a b p pos =
    ceil_least (a + b) p (ceil a p + ceil b p) pos (omega (arith, ceil_covers a p pos, ceil_covers b p pos))

-- F1: what two stretches ask for together is no less than what one of both lengths does
pub work_add : (rows : List Row) (a b : ℕ) → Spaced rows → work rows (a + b) ≤ work rows a + work rows b
unfolding work
work_add [] a b s = omega arith
work_add (x ∷ rows) a b s =
    omega (arith, mul-le-mul_left x.c (ceil_add a b x.p s.0), work_add rows a b s.1)

pub work_zero : (rows : List Row) → Spaced rows → work rows 0 ≤ 0
unfolding work
work_zero [] s = omega arith
work_zero (x ∷ rows) s =
    omega (arith, mul-le-mul_left x.c (ceil_least 0 x.p 0 s.0 (omega arith)), work_zero rows s.1)

-- F2: if r slots are enough for c packets and the rows, then n times r slots more bring n times c packets of room
pub work_repeat : (c : ℕ) (rows : List Row) (r : ℕ) → Spaced rows → c + work rows r ≤ r
    → (u n : ℕ) → work rows (u + n * r) + n * c ≤ work rows u + n * r
work_repeat c rows r s h u zero = omega (arith, work_mono rows (u + 0 * r) u s (omega arith))
work_repeat c rows r s h u (suc n) =
    let longer : work rows (u + suc n * r) ≤ work rows (u + n * r + r) = work_mono rows _ _ s (omega arith) in
    omega (arith, work_add rows (u + n * r) r s, work_repeat c rows r s h u n)

pub work_append : (xs ys : List Row) (r : ℕ) → work (xs ++ ys) r ≡ work xs r + work ys r
unfolding work
work_append [] ys r = omega arith
work_append (x ∷ xs) ys r = omega (arith, work_append xs ys r)

pub work_reverse : (xs above : List Row) (r : ℕ) → work (reverse_aux xs above) r ≡ work xs r + work above r
unfolding work
work_reverse [] above r = omega arith
work_reverse (x ∷ xs) above r = omega (arith, work_reverse xs (x ∷ above) r)
