-- A channel's record being cleared: the n numbers passed are 0, any other is as before.
use Prim.Native.Nat.{ℕ, zero, suc, ◌+◌, ◌≤◌, ◌<◌}
use mathlib.Core.Path.{◌≡◌, refl}
use native.Mathlib.Numerals.{add-one}
use native.Mathlib.Omega.{arith}
use lib.ListN.{length, replicate}
use lib.Seq.{paste}
use Rattle.std.proofs.Common.{[]}
use Rattle.std.proofs.lemmas.List.Edits.{paste_none, fill_from_more}
use Rattle.store.specs.Layout.{Store, channel_at, number_at, cleared}
use Rattle.folds.proofs.Folds.{below}
use Rattle.store.proofs.Laws.Layout.{written, beside, as_long}

module _ (w : Store) (x : ℕ) where
  pub cleared_length : (n : ℕ) → length (cleared w x n) ≡ length w
  unfolding cleared
  cleared_length zero = refl
  cleared_length (suc i) = rw (as_long (cleared w x i) (channel_at x + i) 0) (cleared_length i)

  pub cleared_beside : (n at : ℕ) → (channel_at x ≤ at → at < channel_at x + n → ⊥) → number_at (cleared w x n) at ≡ number_at w at
  unfolding cleared
  cleared_beside zero at h = refl
  cleared_beside (suc i) at h =
      rw (beside (cleared w x i) (channel_at x + i) 0 at (λ e. h (omega arith) (omega arith)))
      (cleared_beside i at (λ l m. h l (omega arith)))

  pub cleared_zero : (n at : ℕ) → channel_at x ≤ at → at < channel_at x + n → channel_at x + n ≤ length w
      → number_at (cleared w x n) at ≡ 0
  unfolding cleared
  cleared_zero zero at a b l = absurd (omega arith)
  cleared_zero (suc n) at a b l =
      below at (channel_at x + n) (omega arith)
      (λ m. rw (beside (cleared w x n) (channel_at x + n) 0 at (λ e. omega arith)) (cleared_zero n at a m (omega arith)))
      (λ s. rw s (written (cleared w x n) (channel_at x + n) 0 (omega (arith, cleared_length n))))

-- as one part of the store that is filled
pub cleared_filled : (w : Store) (x n : ℕ) → channel_at x + n ≤ length w
    → cleared w x n ≡ paste w (channel_at x) (replicate n 0) n
unfolding cleared
cleared_filled w x zero h = paste_none w (channel_at x) []
cleared_filled w x (suc i) h =
    rw (cleared_filled w x i (omega arith)) (rw add-one at (fill_from_more w (channel_at x) i 0 (omega arith)))
