-- A channel whose messages are in order is so in the store that tells of them, if those that the store does not look at are
-- delivered.
use Prim.Native.Nat.{ℕ, zero, suc, ◌+◌, ◌-◌, ◌≤◌, ◌<◌}
use mathlib.Core.Path.{◌≡◌}
use mathlib.Core.Bool.{true, ◌||◌}
use mathlib.Core.List.{List}
use native.Mathlib.Numerals.{add-one}
use native.Mathlib.Omega.{arith}
use lib.Dec.{leb}
use lib.ListN.{length}
use borrow.Author.Tests.{le-leb, lt-ltb}
use Rattle.schedule.specs.Messages.{Message, Orderly, ended}
use Rattle.store.specs.Layout.{Store, ring, c_of, p_of, time_of, end_of}
use Rattle.store.specs.Amounts.{delivered_of}
use Rattle.store.specs.Sound.{delivered, follows, in_order}
use Rattle.folds.proofs.Folds.{or_true}
use Rattle.store.proofs.Laws.Sound.{both}
use Rattle.promise_queue.specs.Queue.{end_after}
use Rattle.promise_queue.proofs.Ends.{end_rises, end_size, time_apart}
use Rattle.promise_view.specs.View.{Told}

module _ {w : Store} {x : ℕ} {ms : List Message} (t : Told w x ms) (o : Orderly (c_of w x) (p_of w x) 0 0 ms) where
  past_is : (n : ℕ) → n ≤ length ms → length ms < n + ring → end_after ms n ≤ delivered_of w x → delivered w x n ≡ true
  past_is n h l e = le-leb (end_of w x n) (delivered_of w x) (omega (arith, t.end n h l))

  none_past : length ms < ring → delivered w x 0 ≡ true
  unfolding ended
  none_past l = past_is 0 (omega arith) (omega arith) (omega arith)

  -- "logical times at least p apart", of two messages
  apart : (n : ℕ) → n < length ms → length ms ≤ n + (ring - 2)
      → (delivered w x n || leb (time_of w x n + p_of w x) (time_of w x (suc n))) ≡ true
  apart zero h l = rw (none_past (omega arith))
  apart (suc n) h l =
      or_true (delivered w x (suc n)) _
      (le-leb (time_of w x (suc n) + p_of w x) (time_of w x (suc (suc n)))
      (omega (
        arith,
        t.time n (omega arith) (omega arith),
        t.time (suc n) h (omega arith),
        time_apart (c_of w x) (p_of w x) ms o n h,
      )))

  follows_told : (n : ℕ) → n < length ms → length ms ≤ n + (ring - 2) → follows w x n ≡ true
  follows_told n h l =
      let start = t.end n (omega arith) (omega arith) in
      let end = t.end (suc n) h (omega arith) in
      rw (add-one n)
      (both _ _
      (both _ _ (lt-ltb (end_of w x n) (end_of w x (suc n)) (omega (arith, start, end, end_rises (c_of w x) (p_of w x) ms o n h)))
      (le-leb (end_of w x (suc n)) (end_of w x n + c_of w x) (omega (arith, start, end, end_size (c_of w x) (p_of w x) ms o n h))))
      (apart n h l))

  -- the first v messages are delivered
  module _ (v : ℕ) (past : (i : ℕ) → i ≤ length ms → i ≤ v → end_after ms i ≤ delivered_of w x) where
    pub in_order_lem : (n kept : ℕ) → n ≤ length ms → length ms + kept ≤ n + (ring - 2) → n ≤ v + kept → in_order w x n kept ≡ true
    unfolding in_order
    in_order_lem n zero h l m = past_is n h (omega arith) (past n h (omega arith))
    in_order_lem zero (suc kept) h l m = none_past (omega arith)
    in_order_lem (suc n) (suc kept) h l m =
        or_true (delivered w x (suc n)) _
        (both _ _ (follows_told n h (omega arith)) (in_order_lem n kept (omega arith) (omega arith) (omega arith)))
