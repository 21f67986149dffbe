-- Laws of `jobs` and `demand`.
use Prim.Native.Nat.{ℕ, ◌+◌, ◌-◌, ◌*◌, ◌/◌, ◌≤◌, ◌<◌}
use mathlib.Core.Path.{◌≡◌, ap, ◌∙◌}
use native.Mathlib.Nat.{mul-le-mul_left, le-div_iff_mul-le, div-lt_iff_lt-mul, lt-div-mul-add, add-div_right}
use native.Mathlib.Omega.{arith}
use Rattle.response.specs.declared.Row.{Row}
use Rattle.schedule.specs.Due.{jobs, demand}

-- The number of jobs is the least n with x < e + n · p: these two say so.
pub jobs_least : (e x p n : ℕ) → 1 ≤ p → x < e + n * p → jobs e x p ≤ n
unfolding jobs
jobs_least e x p n pos h = omega (arith, (div-lt_iff_lt-mul pos).1 below)
  where
    below : x + p - e < (n + 1) * p
    below = omega arith

pub jobs_covers : (e x p : ℕ) → 1 ≤ p → x < e + jobs e x p * p
unfolding jobs
jobs_covers e x p pos = omega (arith, lt-div-mul-add {a = x + p - e} pos)

-- a job that is counted, number k from 0, has a time of at most x
pub jobs_counted : (e x p k : ℕ) → 1 ≤ p → k < jobs e x p → e + k * p ≤ x
unfolding jobs
jobs_counted e x p k pos h = omega (arith, (le-div_iff_mul-le pos).0 h)

-- F3: the later the first, the fewer; the later the end, the more
pub jobs_mono : (e x e' x' p : ℕ) → 1 ≤ p → e' ≤ e → x ≤ x' → jobs e x p ≤ jobs e' x' p
jobs_mono e x e' x' p pos he hx = jobs_least e x p (jobs e' x' p) pos (omega (arith, jobs_covers e' x' p pos))

-- F3: if the first is counted, they are one more than those from the second on
pub jobs_next : (e x p : ℕ) → 1 ≤ p → e ≤ x → jobs e x p ≡ jobs (e + p) x p + 1
unfolding jobs
jobs_next e x p pos h = ap (λ n. n / p) split ∙ add-div_right (x + p - (e + p)) pos
  where
    split : x + p - e ≡ x + p - (e + p) + p
    split = omega arith

-- The same of a row's demand.
module _ (y : Row) (pos : 1 ≤ y.p) where
  pub demand_mono : (s s' x : ℕ) → s' ≤ s → demand y s x ≤ demand y s' x
  unfolding demand
  demand_mono s s' x h = mul-le-mul_left y.c
      (jobs_mono (s + y.delay) x (s' + y.delay) x y.p pos (omega arith) (omega arith))

  pub demand_next : (s x : ℕ) → s + y.delay ≤ x → demand y s x ≡ y.c + demand y (s + y.p) x
  unfolding demand
  demand_next s x h =
      let e : s + y.p + y.delay ≡ s + y.delay + y.p = omega arith in
      rw (e, jobs_next (s + y.delay) x y.p pos h) (omega arith)

  pub demand_none : (s x : ℕ) → x < s + y.delay → demand y s x ≡ 0
  unfolding demand
  demand_none s x h = omega (arith, mul-le-mul_left y.c (jobs_least (s + y.delay) x y.p 0 pos (omega arith)))
