-- The log after an offer: a message more changes no packet that was sent.
use Prim.Native.Nat.{ℕ, ◌<◌}
use mathlib.Core.Path.{◌≡◌}
use mathlib.Core.List.{List, [], ◌∷◌, ◌++◌}
use native.Mathlib.Decide.{ℕ_discrete}
use lib.ListN.{take}
use Rattle.schedule.specs.Messages.{Message}
use Rattle.store.specs.Layout.{Store, c_of, p_of, hops_of, sent_of, IsChannel}
use Rattle.store_same.proofs.Same.{sent_same}
use Rattle.store_same.proofs.Settled.{Settled, channels_same}
use Rattle.store_same.proofs.Numbers.{SameNumbers, settled_numbers}
use Rattle.offer_rules.specs.Offer.{offered}
use Rattle.slot_rules.specs.Slot.{Send}
use Rattle.offer_keeps.proofs.Frame.{offered_settled, offered_other}
use Rattle.offer_keeps.proofs.Order.{sent_kept}
use Rattle.store.proofs.Laws.Few.{few_channels, few_places}
use Rattle.promise_queue.specs.Queue.{packets_from}
use Rattle.promise_queue.proofs.More.{Longer, as_long, one_longer}
use Rattle.promise_queue.proofs.Packets.{take_old}
use Rattle.promise_view.specs.View.{Accepted}
use Rattle.promise_view.proofs.Seen.{Seen}
use Rattle.promise_view.proofs.Counted.{sent_most}
use Rattle.promise_sends.specs.Log.{Logged}
use Rattle.promise_sends.proofs.Kept.{timely_kept, names_kept}

module _ {w : Store} {all all' : Accepted} (s : Seen w all) (x packets : ℕ) (h : IsChannel w x) (m : Message)
    (new : all' x ≡ all x ++ (m ∷ [])) (others : (y : ℕ) → (y ≡ x → ⊥) → all' y ≡ all y) where
  abbrev later : Store
  later = offered w x packets

  settled : Settled w later
  settled = offered_settled w x packets (few_channels s.sound x h)

  numbers : (y : ℕ) → IsChannel w y → SameNumbers w later y
  numbers = settled_numbers s.sound settled

  longer : (y : ℕ) → IsChannel w y → Longer (all y) (all' y)
  longer y g = go (ℕ_discrete y x)
    where
      go : Dec (y ≡ x) → Longer (all y) (all' y)
      go (yes e) = rw e (one_longer (all x) (all' x) m new)
      go (no e) = as_long (all y) (all' y) (others y e)

  same_packets : (y j : ℕ) → IsChannel w y → j < hops_of w y
      → take (sent_of later y j) (packets_from 0 0 (all' y)) ≡ take (sent_of w y j) (packets_from 0 0 (all y))
  same_packets y j g i = go (ℕ_discrete y x)
    where
      go : Dec (y ≡ x) → take (sent_of later y j) (packets_from 0 0 (all' y)) ≡ take (sent_of w y j) (packets_from 0 0 (all y))
      go (yes e) =
          let few = few_places s.sound y j g i in
          let place : j < hops_of w x = rw e at i in
          rw (e, sent_kept w x packets j few, new)
          (take_old (c_of w x) (p_of w x) (all x) (s.orderly x) m (sent_of w x j)
          (sent_most (s.sound.channel x h) (s.told x h) j place))
      go (no e) = rw (sent_same (offered_other w x packets y e) j (few_places s.sound y j g i), others y e)

  pub offer_logged : {log : List Send} → Logged w all log → Logged (offered w x packets) all' log
  offer_logged {log} known = record {
    names = λ y j g i.
        let old : IsChannel w y = rw (channels_same settled) at g in
        let place : j < hops_of w y = rw (numbers y old).hops_are at i in
        names_kept numbers all all' known y j old place (same_packets y j old place);
    timely = timely_kept numbers all all' longer log known.timely;
  }
