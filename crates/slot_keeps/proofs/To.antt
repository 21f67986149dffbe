-- The store after the picks of the first n links have moved: at each row picked one packet more is sent, every other number is as
-- before.
use Prim.Native.Nat.{ℕ, zero, suc, ◌+◌, ◌<◌}
use mathlib.Core.Path.{◌≡◌, refl}
use native.Mathlib.Decide.{ℕ_discrete}
use native.Mathlib.Omega.{arith}
use lib.ListN.{length}
use Rattle.store.specs.Layout.{Store, number_at, row_channel_of, row_place_of, sent_at}
use Rattle.folds.proofs.Folds.{below}
use Rattle.store.proofs.Laws.Layout.{written, beside, as_long}
use Rattle.slot_rules.specs.Pick.{pick_of}
use Rattle.slot_rules.specs.Slot.{move_from, moved_to}

-- where row k of link l has its count
abbrev pub row_sent_at : Store → (l k : ℕ) → ℕ
row_sent_at w l k = sent_at (row_channel_of w l k) (row_place_of w l k)

module _ (w : Store) where
  pub to_length : (n : ℕ) → length (moved_to w n) ≡ length w
  unfolding moved_to
  to_length zero = refl
  to_length (suc l) = go (pick_of w l) (to_length l)
    where
      go : (p : ℕ) → length (moved_to w l) ≡ length w → length (move_from w l p (moved_to w l)) ≡ length w
      go zero r = r
      go (suc k) r = rw (as_long (moved_to w l) (row_sent_at w l k) _) r

  pub to_beside : (n at : ℕ) → ((l k : ℕ) → l < n → pick_of w l ≡ suc k → at ≡ row_sent_at w l k → ⊥)
      → number_at (moved_to w n) at ≡ number_at w at
  unfolding moved_to
  to_beside zero at other = refl
  to_beside (suc l) at other = go (pick_of w l) refl (to_beside l at (λ m k h. other m k (omega arith)))
    where
      go : (p : ℕ) → pick_of w l ≡ p → number_at (moved_to w l) at ≡ number_at w at
          → number_at (move_from w l p (moved_to w l)) at ≡ number_at w at
      go zero e r = r
      go (suc k) e r = rw (beside (moved_to w l) (row_sent_at w l k) _ at (other l k (omega arith) e)) r

  -- a row that two links picked would be written twice, with the same number
  pub to_there : (n l k : ℕ) → l < n → pick_of w l ≡ suc k → row_sent_at w l k < length w
      → number_at (moved_to w n) (row_sent_at w l k) ≡ number_at w (row_sent_at w l k) + 1
  unfolding moved_to
  to_there zero l k h e i = absurd (omega arith)
  to_there (suc n) l k h e i = go (pick_of w n) refl (λ m. to_there n l k m e i)
    where
      go : (p : ℕ) → pick_of w n ≡ p → (l < n → number_at (moved_to w n) (row_sent_at w l k) ≡ number_at w (row_sent_at w l k) + 1)
          → number_at (move_from w n p (moved_to w n)) (row_sent_at w l k) ≡ number_at w (row_sent_at w l k) + 1
      go zero f r = below l n h r (λ s. absurd (omega (arith, rw s at e)))
      go (suc m) f r = at (ℕ_discrete (row_sent_at w l k) (row_sent_at w n m))
        where
          at : Dec (row_sent_at w l k ≡ row_sent_at w n m)
              → number_at (move_from w n (suc m) (moved_to w n)) (row_sent_at w l k) ≡ number_at w (row_sent_at w l k) + 1
          at (yes s) = rw s (written (moved_to w n) (row_sent_at w n m) _ (omega (arith, to_length n)))
          at (no d) =
              rw (beside (moved_to w n) (row_sent_at w n m) _ (row_sent_at w l k) d)
              (below l n h r (λ s. absurd (d (let t : k ≡ m = cc (rw s at e) in rw (s, t)))))
