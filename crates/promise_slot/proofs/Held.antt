-- After a slot no place but the first holds more than is reserved there.
use Prim.Native.Nat.{ℕ, suc, ◌+◌, ◌-◌, ◌/◌, ◌≤◌, ◌<◌}
use native.Mathlib.Omega.{arith}
use lib.ListN.{length}
use Rattle.schedule.specs.Messages.{ended}
use Rattle.schedule.proofs.Times.{on_later}
use Rattle.store.specs.Layout.{Store, clock_of, c_of, p_of, hops_of, route_of, delay_of, sent_of, horizon_of, IsChannel}
use Rattle.folds.specs.Folds.{sum_to}
use Rattle.store.specs.Amounts.{reserved_of, entered_of, held_of, reserved_along}
use Rattle.store_same.proofs.Settled.{Settled, channel_kept}
use Rattle.store_same.proofs.Numbers.{SameNumbers, settled_numbers}
use Rattle.slot_rules.specs.Slot.{moved}
use Rattle.slot_keeps.proofs.After.{moved_settled}
use Rattle.slot_keeps.proofs.Course.{course}
use Rattle.promise_queue.specs.Queue.{time_at, end_after}
use Rattle.promise_queue.proofs.Few.{few_held}
use Rattle.promise_view.specs.View.{Accepted}
use Rattle.promise_view.proofs.Seen.{Seen, Steady, Near}
use Rattle.promise_view.proofs.Counted.{sent_most}
use Rattle.promise_view.proofs.InTime.{still_before}
use Rattle.promise_slot.proofs.Told.{told_after}
use Rattle.promise_slot.proofs.Steady.{links_after, counted_after}
use Rattle.promise_slot.proofs.Kept.{near_here}

-- A logical time at place j + 1 of channel x at the clock after the slot: its deadline there is still to come, and on the link
-- before it has been within the horizon.
abbrev InStretch : Store → (x j ℓ : ℕ) → Type 0
InStretch w x j ℓ = (suc (clock_of w) < ℓ + delay_of w x (suc j))
    × (ℓ < suc (clock_of w) + horizon_of w (route_of w x j) + delay_of w x j)

module _ {w : Store} {all : Accepted} (s : Seen w all) where
  -- no more has been sent than was accepted
  gone_most : (x j : ℕ) → IsChannel w x → j < hops_of w x → sent_of (moved w) x j ≤ ended 0 (all x)
  gone_most x j h i =
      let settled : Settled w (moved w) = moved_settled s.sound in
      let same : SameNumbers w (moved w) x = settled_numbers s.sound settled x h in
      sent_most (channel_kept settled s.sound x h (course s.sound x h)) (told_after s x same.there) j
      (rw same.hops_are i)

  module _ (on : Steady w all) (near : Near w all) (x j : ℕ) (h : IsChannel w x) (i : suc j < hops_of w x) where
    -- a message of which a packet is held at place j + 1
    in_stretch : (n : ℕ) → n < length (all x) → sent_of (moved w) x (suc j) < end_after (all x) (suc n)
        → end_after (all x) n < sent_of (moved w) x j → InStretch w x j (time_at (all x) n + sum_to (delay_of w x) (suc j))
    unfolding sum_to
    in_stretch n l above below =
        let early : _ = near_here s x j h (omega arith) near i n l below in
        let t : ℕ = suc (clock_of w) in
        let due : _ = still_before s (moved w) (counted_after s on) t (links_after s on) x (suc j) n h i l above in
        (omega (arith, due), omega (arith, early))

    pub held_later : held_of (moved w) x (suc j) ≤ reserved_of w x (suc j)
    unfolding entered_of reserved_of reserved_along
    held_later =
        let p : ℕ = p_of w x in
        let before : ℕ = horizon_of w (route_of w x j) in
        let few : _ = few_held (c_of w x) p (all x) (s.orderly x) (InStretch w x j) (sum_to (delay_of w x) (suc j))
        (sent_of (moved w) x (suc j)) (sent_of (moved w) x j) (1 + (before + delay_of w x j + delay_of w x (suc j) - 2) / p)
        (gone_most x j h (omega arith)) in_stretch
        (λ e times apart each. on_later p e times apart (suc (clock_of w)) (delay_of w x (suc j)) before (delay_of w x j)
        (s.sound.channel x h).good.p_least each) in
        omega (arith, few)
