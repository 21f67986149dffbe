-- How d is shared out over n places with the responses r: each delay is from the response to p, and together they are at most d.
use Prim.Native.Nat.{ℕ, zero, suc, ◌+◌, ◌-◌, ◌*◌, ◌/◌, ◌≤◌, ◌<◌}
use mathlib.Core.Path.{◌≡◌, refl}
use native.Mathlib.Nat.{le_trans, le-min, min-le_left, min-le_right, div-mul-le_self, le_of_mul-le-mul_right}
use native.Mathlib.Omega.{arith}
use Rattle.store.specs.Layout.{Store}
use Rattle.folds.specs.Folds.{sum_to}
use Rattle.folds.proofs.Folds.{sum_part, sum_mono, sum_same}
use Rattle.open_rules.specs.Shares.{shares, delays}
use Rattle.store.specs.Amounts.{reserved_along}

pub total_least : (r : ℕ → ℕ) (n : ℕ) → 1 ≤ n → ((j : ℕ) → j < n → 1 ≤ r j) → 1 ≤ sum_to r n
total_least r n h least = le_trans (least 0 h) (sum_part r n 0 h)

-- a share where `rest` is left over the sum `s`
abbrev share : (rest s : ℕ) → (r : ℕ → ℕ) → (j : ℕ) → ℕ
share rest s r j = r j + rest * r j / s

-- each quotient is rounded down, so that the shares are to the responses as at most s + rest is to s
shares_most : (rest s : ℕ) (r : ℕ → ℕ) (n : ℕ) → sum_to (share rest s r) n * s ≤ (s + rest) * sum_to r n
unfolding sum_to
shares_most rest s r zero = omega arith
shares_most rest s r (suc n) = omega (arith, shares_most rest s r n, div-mul-le_self (rest * r n) s)

-- Delays and reserved packets are the same where what they are worked out from is, below n.
pub delays_same : (p d n : ℕ) (r r' : ℕ → ℕ) → ((j : ℕ) → j < n → r j ≡ r' j) → (j : ℕ) → j < n
    → delays p d n r j ≡ delays p d n r' j
delays_same p d n r r' h j l = rw (sum_same r r' n h, h j l)

pub reserved_same : (w : Store) (c p b n : ℕ) (route d d' : ℕ → ℕ) → ((j : ℕ) → j < n → d j ≡ d' j) → (j : ℕ) → j < n
    → reserved_along w c p b route d j ≡ reserved_along w c p b route d' j
unfolding reserved_along
reserved_same w c p b n route d d' h zero l = refl
reserved_same w c p b n route d d' h (suc j) l = rw (h j (omega arith), h (suc j) l)

module _ (p d n : ℕ) (r : ℕ → ℕ) where
  pub delay_within : (j : ℕ) → delays p d n r j ≤ p
  delay_within j = min-le_right (shares d n r j) p

  pub delay_covers : (j : ℕ) → r j ≤ p → r j ≤ delays p d n r j
  delay_covers j h = le-min (omega arith) h

  pub delay_least : (j : ℕ) → 1 ≤ r j → r j ≤ p → 1 ≤ delays p d n r j
  delay_least j l h = le_trans l (delay_covers j h)

  pub delays_fit : 1 ≤ sum_to r n → sum_to r n ≤ d → sum_to (delays p d n r) n ≤ d
  delays_fit l h =
      let s = sum_to r n in
      let m : sum_to (shares d n r) n ≤ s + (d - s) = le_of_mul-le-mul_right (shares_most (d - s) s r n) l in
      omega (arith, sum_mono (delays p d n r) (shares d n r) n (λ j _. min-le_left (shares d n r j) p))
