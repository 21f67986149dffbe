-- After a slot a store tells of the same messages.
use Prim.Native.Nat.{ℕ, ◌<◌}
use Rattle.kinds.specs.Ranges.{most_channels}
use Rattle.store.specs.Layout.{Store, IsChannel}
use Rattle.store.proofs.Laws.Few.{few_channels}
use Rattle.store_same.proofs.Settled.{channels_same}
use Rattle.slot_rules.specs.Slot.{moved}
use Rattle.slot_keeps.proofs.After.{moved_settled, messages_after, time_after_lem, end_after_lem}
use Rattle.promise_view.specs.View.{Accepted, Told}
use Rattle.promise_view.proofs.Seen.{Seen}
use Rattle.promise_view.proofs.Same.{told_same}

module _ {w : Store} {all : Accepted} (s : Seen w all) where
  pub told_after : (x : ℕ) → IsChannel (moved w) x → Told (moved w) x (all x)
  told_after x i =
      let h : IsChannel w x = rw (channels_same (moved_settled s.sound)) at i in
      let few : x < most_channels = few_channels s.sound x h in
      told_same (messages_after s.sound x few) (time_after_lem s.sound x few) (end_after_lem s.sound x few) (s.told x h)
