-- The message of packet i and that of packet i + 1, in a sound channel: they are one, or packet i is the last of its message and
-- the other is of the next.
use Prim.Native.Nat.{ℕ, zero, suc, ◌+◌, ◌≤◌, ◌<◌}
use mathlib.Core.Path.{◌≡◌, refl}
use mathlib.Core.Logic.{◌⊎◌, inl, inr}
use mathlib.Core.Bool.{Bool, true, false, ◌&&◌, and-eq-true_iff}
use native.Mathlib.Numerals.{add-one}
use native.Mathlib.Omega.{arith}
use lib.Dec.{leb, ltb}
use borrow.Author.Tests.{leb-true, leb-false, le-leb, ltb-true}
use Rattle.store.specs.Layout.{Store, c_of, end_of}
use Rattle.store.specs.Amounts.{delivered_of}
use Rattle.store.specs.Sound.{follows, in_order}
use Rattle.slot_rules.specs.Head.{message_with}
use Rattle.slot_rules.proofs.Laws.Head.{follows_is}

-- packet i is of message r, and packet i + 1 of message r'
abbrev pub NextIs : Store → (x i r r' : ℕ) → Type 0
NextIs w x i r r' = (r' ≡ r) ⊎ ((r' ≡ r + 1) × (i + 1 ≡ end_of w x r))

module _ (w : Store) (x i : ℕ) (past : delivered_of w x ≤ i) where
  -- a message has a packet
  follows_rises : (n : ℕ) → follows w x n ≡ true → end_of w x n < end_of w x (suc n)
  follows_rises n f =
      let a = (and-eq-true_iff (ltb (end_of w x n) (end_of w x (n + 1)) && leb (end_of w x (n + 1)) (end_of w x n + c_of w x)) _).0 f in
      let b = (and-eq-true_iff (ltb (end_of w x n) (end_of w x (n + 1))) _).0 a.0 in
      rw (add-one n) at (ltb-true (end_of w x n) (end_of w x (n + 1)) b.0)

  -- message n, if packet i is its last one
  message_last : (n kept : ℕ) → in_order w x n kept ≡ true → end_of w x n ≡ i + 1 → message_with w x i n kept ≡ n
  unfolding in_order message_with
  message_last n zero o e = refl
  message_last zero (suc kept) o e = refl
  message_last (suc n) (suc kept) o e =
      let f = follows_is w x i past n kept (omega arith) o in
      rw (le-leb (end_of w x n) i (omega (arith, follows_rises n f.0)), message_with)

  pub message_next : (n kept : ℕ) → in_order w x n kept ≡ true → i + 1 < end_of w x n
      → NextIs w x i (message_with w x i n kept) (message_with w x (i + 1) n kept)
  unfolding in_order message_with
  message_next n zero o h = absurd (omega (arith, leb-true (end_of w x n) (delivered_of w x) o))
  message_next zero (suc kept) o h = absurd (omega (arith, leb-true (end_of w x zero) (delivered_of w x) o))
  message_next (suc n) (suc kept) o h =
      go (leb (end_of w x n) i) (leb (end_of w x n) (i + 1)) refl refl (follows_is w x i past n kept (omega arith) o).1
      (message_next n kept)
    where
      go : (a b : Bool) → leb (end_of w x n) i ≡ a → leb (end_of w x n) (i + 1) ≡ b → in_order w x n kept ≡ true
          → (in_order w x n kept ≡ true → i + 1 < end_of w x n
          → NextIs w x i (message_with w x i n kept) (message_with w x (i + 1) n kept))
          → NextIs w x i (message_with w x i (suc n) (suc kept)) (message_with w x (i + 1) (suc n) (suc kept))
      go true true e f p r = rw (e, f, message_with) (inl refl)
      go true false e f p r = absurd (omega (arith, leb-true (end_of w x n) i e, leb-false (end_of w x n) (i + 1) f))
      go false true e f p r =
          let l : end_of w x n ≡ i + 1 = omega (arith, leb-false (end_of w x n) i e, leb-true (end_of w x n) (i + 1) f) in
          rw (e, f, message_with, message_last n kept p l) (inr (omega arith, omega arith))
      go false false e f p r = rw (e, f, message_with) (r p (leb-false (end_of w x n) (i + 1) f))
