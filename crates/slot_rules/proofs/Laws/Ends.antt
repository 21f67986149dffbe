-- What the message of a packet hangs on: the ends of as many messages as are kept; and not on how many those are, where the
-- packet's own is among them.
use Prim.Native.Nat.{ℕ, zero, suc, ◌+◌, ◌≤◌, ◌<◌}
use mathlib.Core.Path.{◌≡◌, refl}
use mathlib.Core.Bool.{Bool, true, false}
use native.Mathlib.Omega.{arith}
use lib.Dec.{leb}
use borrow.Author.Tests.{leb-true, leb-false, lt-leb}
use Rattle.store.specs.Layout.{Store, end_of}
use Rattle.store.specs.Amounts.{delivered_of}
use Rattle.store.specs.Sound.{in_order}
use Rattle.slot_rules.specs.Head.{message_with}
use Rattle.slot_rules.proofs.Laws.Head.{follows_is}

pub message_same : (w w' : Store) (x u n kept : ℕ) → ((m : ℕ) → m < n → n ≤ m + kept → end_of w' x m ≡ end_of w x m)
    → message_with w' x u n kept ≡ message_with w x u n kept
unfolding message_with
message_same w w' x u n zero same = refl
message_same w w' x u zero (suc kept) same = refl
message_same w w' x u (suc n) (suc kept) same =
    go (leb (end_of w x n) u) refl (message_same w w' x u n kept (λ m h i. same m (omega arith) (omega arith)))
  where
    now : end_of w' x n ≡ end_of w x n
    now = same n (omega arith) (omega arith)

    go : (b : Bool) → leb (end_of w x n) u ≡ b → message_with w' x u n kept ≡ message_with w x u n kept
        → message_with w' x u (suc n) (suc kept) ≡ message_with w x u (suc n) (suc kept)
    go true e r = let f : leb (end_of w' x n) u ≡ true = rw now e in rw (e, f, message_with)
    go false e r = let f : leb (end_of w' x n) u ≡ false = rw now e in rw (e, f, message_with) r

-- a message more, after that of packet u
pub message_before : (w : Store) (x u n kept : ℕ) → u < end_of w x n
    → message_with w x u (suc n) (suc kept) ≡ message_with w x u n kept
unfolding message_with
message_before w x u n kept h = rw (lt-leb (end_of w x n) u h, message_with)

-- one kept more
pub message_kept : (w : Store) (x u n kept : ℕ) → delivered_of w x ≤ u → in_order w x n kept ≡ true → u < end_of w x n
    → message_with w x u n (suc kept) ≡ message_with w x u n kept
unfolding in_order message_with
message_kept w x u n zero past o h = absurd (omega (arith, leb-true (end_of w x n) (delivered_of w x) o))
message_kept w x u zero (suc kept) past o h = refl
message_kept w x u (suc n) (suc kept) past o h =
    go (leb (end_of w x n) u) refl (message_kept w x u n kept past (follows_is w x u past n kept h o).1)
  where
    go : (b : Bool) → leb (end_of w x n) u ≡ b
        → (u < end_of w x n → message_with w x u n (suc kept) ≡ message_with w x u n kept)
        → message_with w x u (suc n) (suc (suc kept)) ≡ message_with w x u (suc n) (suc kept)
    go true e r = rw (e, message_with)
    go false e r = rw (e, message_with) (r (leb-false (end_of w x n) u e))
