-- After a slot each channel's course is sound again: no more has been sent at a place than has come to it, and its messages are
-- in order.
use Prim.Native.Nat.{ℕ, zero, suc, ◌+◌, ◌-◌, ◌≤◌, ◌<◌}
use mathlib.Core.Path.{◌≡◌, refl}
use mathlib.Core.Bool.{Bool, true, false, ◌&&◌, ◌||◌, and-eq-true_iff}
use native.Mathlib.Omega.{arith}
use lib.Dec.{leb, ltb}
use borrow.Author.Tests.{leb-true, le-leb}
use Rattle.kinds.specs.Ranges.{most_channels}
use Rattle.store.specs.Layout.{Store, ring, c_of, p_of, hops_of, messages_of, sent_of, time_of, end_of, IsChannel}
use Rattle.store.specs.Amounts.{delivered_of, entered_of}
use Rattle.store.specs.Sound.{delivered, follows, in_order}
use Rattle.folds.proofs.Folds.{or_true}
use Rattle.store.proofs.Laws.Sound.{both, CourseIs, Sound}
use Rattle.store_same.proofs.Settled.{c_kept, p_kept, hops_kept, offset_kept}
use Rattle.slot_rules.specs.Slot.{moved}
use Rattle.slot_keeps.specs.Room.{leaves}
use Rattle.store.proofs.Laws.Few.{few_channels}
use Rattle.slot_keeps.proofs.Leaves.{leaving_held}
use Rattle.slot_keeps.proofs.After.{moved_settled, messages_after, time_after_lem, end_after_lem, accepted_after, sent_goes}
use Rattle.slot_keeps.proofs.After.{sent_stays, sent_rises}

or_more : (a b a' b' : Bool) → (a ≡ true → a' ≡ true) → (b ≡ true → b' ≡ true) → (a || b) ≡ true → (a' || b') ≡ true
or_more true b a' b' f g e = rw (f refl)
or_more false b a' b' f g e = or_true a' b' (g e)

-- messages in order stay so when more is delivered
module _ (w w' : Store) (x : ℕ) (same_c : c_of w' x ≡ c_of w x) (same_p : p_of w' x ≡ p_of w x)
    (same_time : (n : ℕ) → time_of w' x n ≡ time_of w x n) (same_end : (n : ℕ) → end_of w' x n ≡ end_of w x n)
    (more : delivered_of w x ≤ delivered_of w' x) where
  delivered_more : (n : ℕ) → delivered w x n ≡ true → delivered w' x n ≡ true
  delivered_more n e =
      le-leb (end_of w' x n) (delivered_of w' x) (omega (arith, leb-true (end_of w x n) (delivered_of w x) e, same_end n))

  follows_more : (n : ℕ) → follows w x n ≡ true → follows w' x n ≡ true
  follows_more n e =
      let a = (and-eq-true_iff (ltb (end_of w x n) (end_of w x (n + 1)) && leb (end_of w x (n + 1)) (end_of w x n + c_of w x)) _).0 e in
      both (ltb (end_of w' x n) (end_of w' x (n + 1)) && leb (end_of w' x (n + 1)) (end_of w' x n + c_of w' x)) _
      (rw (same_end n, same_end (n + 1), same_c) a.0)
      (or_more (delivered w x n) _ (delivered w' x n) (leb (time_of w' x n + p_of w' x) (time_of w' x (n + 1)))
      (delivered_more n) (λ f. rw (same_time n, same_time (n + 1), same_p) f) a.1)

  pub order_more : (n kept : ℕ) → in_order w x n kept ≡ true → in_order w' x n kept ≡ true
  unfolding in_order
  order_more zero zero e = delivered_more 0 e
  order_more zero (suc kept) e = delivered_more 0 e
  order_more (suc n) zero e = delivered_more (suc n) e
  order_more (suc n) (suc kept) e =
      or_more (delivered w x (suc n)) _ (delivered w' x (suc n)) _ (delivered_more (suc n))
      (λ f. let a = (and-eq-true_iff (follows w x n) (in_order w x n kept)).0 f in
      both _ _ (follows_more n a.0) (order_more n kept a.1)) e

module _ {w : Store} (s : Sound w) (x : ℕ) (h : IsChannel w x) where
  few : x < most_channels
  few = few_channels s x h

  -- what has come to a place does not fall
  entered_least : (j : ℕ) → j < hops_of w x → entered_of w x j ≤ entered_of (moved w) x j
  unfolding entered_of
  entered_least zero i = omega (arith, accepted_after s x few)
  entered_least (suc j) i = sent_rises s x j h (omega arith)

  flows : (j : ℕ) → j < hops_of w x → sent_of (moved w) x j ≤ entered_of (moved w) x j
  flows j i = go (leaves w x j) refl
    where
      go : (b : Bool) → leaves w x j ≡ b → sent_of (moved w) x j ≤ entered_of (moved w) x j
      go true e = omega (arith, sent_goes s x j h i e, leaving_held s x j h i e, entered_least j i)
      go false e = omega (arith, sent_stays s x j h i e, (s.channel x h).course.flows j i, entered_least j i)

  delivered_least : delivered_of w x ≤ delivered_of (moved w) x
  delivered_least =
      rw (hops_kept (moved_settled s) x few)
      (sent_rises s x (hops_of w x - 1) h (omega (arith, (s.channel x h).hops_least)))

  pub course : CourseIs (moved w) x
  course =
      let k = s.channel x h in
      let settled = moved_settled s in
      record {
        flows = λ j i. flows j (rw (hops_kept settled x few) at i);
        messages_most = rw (messages_after s x few) k.course.messages_most;
        time_most = λ i.
            rw (messages_after s x few, time_after_lem s x few (messages_of w x), offset_kept settled s x h)
            (k.course.time_most (rw (messages_after s x few) at i));
        accepted_most = rw (accepted_after s x few, c_kept settled x few, messages_after s x few) k.course.accepted_most;
        order = rw (messages_after s x few)
            (order_more w (moved w) x (c_kept settled x few) (p_kept settled x few) (time_after_lem s x few) (end_after_lem s x few)
            delivered_least (messages_of w x) (ring - 1) k.course.order);
      }
