-- How many messages of one row can be about at one time: the facts behind the reserved packets.
use Prim.Native.Nat.{ℕ, zero, suc, ◌+◌, ◌-◌, ◌*◌, ◌/◌, ◌≤◌, ◌<◌}
use mathlib.Core.Path.{◌≡◌}
use mathlib.Core.List.{List, [], ◌∷◌}
use native.Mathlib.Nat.{lt-div-mul-add}
use native.Mathlib.Omega.{arith}
use lib.ListN.{length}
use Rattle.schedule.specs.Lists.{Every}
use Rattle.schedule.specs.Times.{Spread}
use Rattle.schedule.proofs.Lists.{every_imp}

-- Times p apart, from a to before z, are at most n if n times p slots reach from a to z.
module _ (p a z : ℕ) where
  Inside : List ℕ → Type 0
  Inside = Every (λ ℓ. (a ≤ ℓ) × (ℓ < z))

  few_from : (e n : ℕ) (times : List ℕ) → Spread p e times → Inside times → z ≤ e + n * p → length times ≤ n
  unfolding Inside
  few_from e n [] apart inside h = omega arith
  few_from e zero (ℓ ∷ times) apart inside h = omega arith
  few_from e (suc n) (ℓ ∷ times) apart inside h =
      omega (arith, few_from (ℓ + p) n times apart.1 inside.1 (omega arith))

  few : (e n : ℕ) (times : List ℕ) → Spread p e times → Inside times → z ≤ a + n * p → length times ≤ n
  unfolding Inside
  few e n [] apart inside h = omega arith
  few e n (ℓ ∷ times) apart inside h = few_from a n (ℓ ∷ times) (inside.0.0, apart.1) inside h

module _ (p e : ℕ) (times : List ℕ) (apart : Spread p e times) where
  -- in a stretch of n slots from a on there are at most (n − 1) / p + 1
  pub in_stretch : (a n : ℕ) → 1 ≤ p → Every (λ ℓ. (a ≤ ℓ) × (ℓ < a + n)) times → length times ≤ (n - 1) / p + 1
  unfolding Inside
  in_stretch a n pos inside =
      few p a (a + n) e ((n - 1) / p + 1) times apart inside (omega (arith, lt-div-mul-add {a = n - 1} pos))

  module _ (t d : ℕ) where
    -- The first link at t: none is late, and each was accepted at most (B − 1) · p ahead. At most B.
    pub on_first : (b : ℕ) → 1 ≤ b → d ≤ p → Every (λ ℓ. (t < ℓ + d) × (ℓ ≤ t + (b - 1) * p)) times → length times ≤ b
    unfolding Inside
    on_first b some con held = few p (t + 1 - d) (t + (b - 1) * p + 1) e b times apart
        (every_imp _ _ times (λ ℓ h. (omega arith, omega arith)) held) (omega (arith, blocks b some))
      where
        blocks : (k : ℕ) → 1 ≤ k → k * p ≡ (k - 1) * p + p
        blocks zero h = omega arith
        blocks (suc k) h = let same : suc k - 1 ≡ k = omega arith in rw same (omega arith)

    -- A later link at t: none is late, and each packet was sent before t on the link before, at most h ahead of its
    -- logical time there, which is d' less. At most 1 + (h + d' + d − 2) / p.
    pub on_later : (h d' : ℕ) → 1 ≤ p → Every (λ ℓ. (t < ℓ + d) × (ℓ < t + h + d')) times
        → length times ≤ 1 + (h + d' + d - 2) / p
    unfolding Inside
    on_later h d' pos held = few p (t + 1 - d) (t + h + d') e (1 + (h + d' + d - 2) / p) times apart
        (every_imp _ _ times (λ ℓ k. (omega arith, omega arith)) held) (omega (arith, lt-div-mul-add {a = h + d' + d - 2} pos))
