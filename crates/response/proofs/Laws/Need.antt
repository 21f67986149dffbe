-- Laws of `ceil`, `work`, `need` and `start`.
use Prim.Native.Nat.{ℕ, zero, suc, ◌+◌, ◌-◌, ◌*◌, ◌≤◌, ◌<◌}
use mathlib.Core.Path.{◌≡◌, refl}
use mathlib.Core.List.{List, [], ◌∷◌}
use native.Mathlib.Nat.{div-lt_iff_lt-mul, lt-div-mul-add, mul-le-mul_left, le_trans}
use native.Mathlib.Omega.{arith}
use Rattle.response.specs.declared.Row.{Row}
use Rattle.response.specs.Need.{ceil, work, need, packets, start, Spaced}

-- The quotient rounded up is the least k with r ≤ k · p: these two say so, and the others follow from them.
pub ceil_least : (r p k : ℕ) → 1 ≤ p → r ≤ k * p → ceil r p ≤ k
unfolding ceil
ceil_least r p k pos h = omega (arith, (div-lt_iff_lt-mul pos).1 below)
  where
    below : r + p - 1 < (k + 1) * p
    below = omega arith

pub ceil_covers : (r p : ℕ) → 1 ≤ p → r ≤ ceil r p * p
unfolding ceil
ceil_covers r p pos = omega (arith, lt-div-mul-add {a = r + p - 1} pos)

pub ceil_mono : (a b p : ℕ) → 1 ≤ p → a ≤ b → ceil a p ≤ ceil b p
ceil_mono a b p pos h = ceil_least a p (ceil b p) pos (le_trans h (ceil_covers b p pos))

pub ceil_pos : (r p : ℕ) → 1 ≤ p → 1 ≤ r → 1 ≤ ceil r p
ceil_pos r p pos h = go (ceil r p) (ceil_covers r p pos)
  where
    go : (k : ℕ) → r ≤ k * p → 1 ≤ k
    go zero c = omega arith
    go (suc k) c = omega arith

-- rounding up by at least 1 does not enlarge
pub ceil_self : (r p : ℕ) → 1 ≤ p → ceil r p ≤ r
ceil_self r p pos = ceil_least r p r pos (omega (arith, mul-le-mul_left r pos))

pub work_mono : (above : List Row) (a b : ℕ) → Spaced above → a ≤ b → work above a ≤ work above b
unfolding work
work_mono [] a b s h = omega arith
work_mono (x ∷ above) a b s h =
    omega (arith, mul-le-mul_left x.c (ceil_mono a b x.p s.0 h), work_mono above a b s.1 h)

pub need_mono : (own : ℕ) (above : List Row) (a b : ℕ) → Spaced above → a ≤ b → need own above a ≤ need own above b
unfolding need
need_mono own above a b s h = omega (arith, work_mono above a b s h)

-- within any length of at least 1 each row above asks for one message
pub packets_work : (above : List Row) (r : ℕ) → Spaced above → 1 ≤ r → packets above ≤ work above r
unfolding packets work
packets_work [] r s h = omega arith
packets_work (x ∷ above) r s h =
    omega (arith, mul-le-mul_left x.c (ceil_pos r x.p s.0 h), packets_work above r s.1 h)

pub start_need : (own : ℕ) (above : List Row) (r : ℕ) → Spaced above → 1 ≤ r → start own above ≤ need own above r
unfolding start need
start_need own above r s h = omega (arith, packets_work above r s h)

-- the first trial does not fall below the start
pub start_rises : (own : ℕ) (above : List Row) → Spaced above → start own above ≤ need own above (start own above)
start_rises own above s = go (start own above) refl
  where
    go : (r : ℕ) → start own above ≡ r → r ≤ need own above r
    go zero e = omega arith
    go (suc r) e = rw e at (start_need own above (suc r) s (omega arith))

pub own_start : (own : ℕ) (above : List Row) → own ≤ start own above
unfolding start
own_start own above = omega arith
