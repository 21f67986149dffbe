-- The store that a slot leaves is sound, and tells of the messages that were accepted.
use Prim.Native.Nat.{ℕ, zero, suc, ◌≤◌, ◌<◌}
use native.Mathlib.Omega.{arith}
use Rattle.kinds.specs.Ranges.{end_slot}
use Rattle.store.specs.Layout.{Store, clock_of, hops_of, IsChannel}
use Rattle.store.specs.Amounts.{reserved_of, entered_of, held_of}
use Rattle.store.proofs.Laws.Sound.{Sound, held_most}
use Rattle.store.proofs.Laws.Few.{few_channels}
use Rattle.store_same.proofs.Settled.{channels_same, settled_sound}
use Rattle.store_same.proofs.Numbers.{settled_numbers}
use Rattle.slot_rules.specs.Slot.{moved}
use Rattle.slot_keeps.proofs.After.{moved_settled, accepted_after, clock_after, sent_rises}
use Rattle.slot_keeps.proofs.Course.{course}
use Rattle.promise_view.specs.View.{Accepted}
use Rattle.promise_view.proofs.Seen.{Seen, Steady, Near}
use Rattle.promise_view.proofs.Same.{orderly_same}
use Rattle.promise_view.proofs.Settled.{tables_kept}
use Rattle.promise_slot.proofs.Told.{told_after}
use Rattle.promise_slot.proofs.Held.{held_later}

module _ {w : Store} {all : Accepted} (s : Seen w all) (on : Steady w all) (near : Near w all) where
  -- nothing comes to the first place in a slot
  held_after : (x j : ℕ) → IsChannel w x → j < hops_of w x → held_of (moved w) x j ≤ reserved_of w x j
  unfolding entered_of
  held_after x zero h i =
      omega (
        arith,
        held_most s.sound x zero h i,
        accepted_after s.sound x (few_channels s.sound x h),
        sent_rises s.sound x zero h i,
      )
  held_after x (suc j) h i = held_later s on near x j h i

  pub sound_after : clock_of w < end_slot → Sound (moved w)
  sound_after h =
      settled_sound (moved_settled s.sound) s.sound (omega (arith, clock_after s.sound)) (course s.sound) held_after

  pub seen_after : clock_of w < end_slot → Seen (moved w) all
  seen_after h = record {
    sound = sound_after h;
    tables = tables_kept (moved_settled s.sound) s.sound s.tables;
    told = told_after s;
    orderly = orderly_same (settled_numbers s.sound (moved_settled s.sound)) s.orderly s.none;
    none = λ x i. s.none x (rw (channels_same (moved_settled s.sound)) at i);
  }
