-- Eight numbers, one for each place a route may have: f at the places below n, 0 at the others.
use Prim.Native.Nat.{ℕ, zero, suc, ◌+◌, ◌≤◌, ◌<◌}
use mathlib.Core.Path.{◌≡◌, refl}
use native.Mathlib.Numerals.{add-one}
use native.Mathlib.Omega.{arith}
use lib.ListN.{length, replicate, set, length-set}
use Rattle.store.specs.Layout.{number_at}
use Rattle.folds.proofs.Folds.{below}
use Rattle.store.proofs.Laws.Layout.{written, beside}
use Rattle.open_rules.specs.Shares.{eight}

module _ (f : ℕ → ℕ) where
  pub eight_none : eight f 0 ≡ replicate 8 0
  unfolding eight
  eight_none = refl

  pub eight_more : (j : ℕ) → eight f (j + 1) ≡ set (eight f j) j (f j)
  unfolding eight
  eight_more j = rw (add-one j, eight)

  pub eight_length : (n : ℕ) → length (eight f n) ≡ 8
  unfolding eight
  eight_length zero = refl
  eight_length (suc j) = rw (length-set (eight f j) j (f j)) (eight_length j)

  pub eight_at : (n j : ℕ) → j < n → n ≤ 8 → number_at (eight f n) j ≡ f j
  unfolding eight
  eight_at zero j h l = absurd (omega arith)
  eight_at (suc n) j h l =
      below j n h
      (λ k. rw (beside (eight f n) n (f n) j (λ e. omega arith)) (eight_at n j k (omega arith)))
      (λ e. rw e (written (eight f n) n (f n) (omega (arith, eight_length n))))

-- two that agree below n
pub eight_same : (f g : ℕ → ℕ) (n : ℕ) → ((j : ℕ) → j < n → f j ≡ g j) → eight f n ≡ eight g n
unfolding eight
eight_same f g zero h = refl
eight_same f g (suc n) h = rw (eight_same f g n (λ j l. h j (omega arith)), h n (omega arith))
