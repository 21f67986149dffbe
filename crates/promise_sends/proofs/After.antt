-- The log after a slot: with what the slot has sent it is one again.
use Prim.Native.Nat.{ℕ, ◌+◌, ◌-◌, ◌<◌}
use mathlib.Core.Path.{◌≡◌, refl, ap, sym, ◌∙◌}
use mathlib.Core.Bool.{Bool, true, false}
use mathlib.Core.List.{List, [], ◌∷◌, ◌++◌, map, map-append, append-nil}
use native.Mathlib.Numerals.{add-one}
use native.Mathlib.Omega.{arith}
use lib.ListN.{take}
use Rattle.schedule.proofs.Lists.{every_append}
use Rattle.store.specs.Layout.{Store, c_of, p_of, hops_of, route_of, sent_of, IsChannel}
use Rattle.store_same.proofs.Settled.{channels_same}
use Rattle.slot_rules.specs.Head.{message_of}
use Rattle.slot_rules.specs.Slot.{Send, send_at, slot_sends, moved}
use Rattle.slot_keeps.specs.Room.{leaves}
use Rattle.slot_keeps.proofs.Leaves.{leaving_held}
use Rattle.slot_keeps.proofs.After.{moved_settled, sent_goes, sent_stays}
use Rattle.promise_queue.specs.Queue.{Packet, packets_from}
use Rattle.promise_queue.specs.Keep.{keep}
use Rattle.promise_queue.proofs.Keep.{keep_append}
use Rattle.promise_queue.proofs.Packets.{packet_next}
use Rattle.promise_view.specs.View.{Accepted}
use Rattle.promise_view.proofs.Seen.{Seen, Steady}
use Rattle.promise_view.proofs.Next.{next_is}
use Rattle.store_same.proofs.Numbers.{SameNumbers, settled_numbers}
use Rattle.promise_queue.proofs.More.{as_long}
use Rattle.promise_sends.specs.Sends.{is_on, name_of}
use Rattle.promise_sends.specs.Log.{InTime, Logged}
use Rattle.promise_sends.proofs.Slot.{sends_on_lem}
use Rattle.promise_sends.proofs.Kept.{timely_kept}
use Rattle.promise_sends.proofs.Timely.{slot_timely}

-- what was sent at one place, of a log and of more behind it
names_append : (f : Send → Bool) (log more : List Send)
    → map name_of (keep f (log ++ more)) ≡ map name_of (keep f log) ++ map name_of (keep f more)
names_append f log more = ap (map name_of) (keep_append f log more) ∙ map-append name_of (keep f log) (keep f more)

module _ {w : Store} {all : Accepted} (s : Seen w all) where
  -- the packet that goes next is the channel's first that was not sent there
  module _ (x j : ℕ) (h : IsChannel w x) (i : j < hops_of w x) where
    abbrev packets : List Packet
    packets = packets_from 0 0 (all x)

    one_more : leaves w x j ≡ true
        → take (sent_of w x j) packets ++ (name_of (send_at w (route_of w x j) x j) ∷ []) ≡ take (sent_of w x j + 1) packets
    one_more e =
        let y = next_is (s.sound.channel x h) (s.told x h) j i (leaving_held s.sound x j h i e) in
        let message : message_of w x j - 1 ≡ y.n = omega (arith, y.number) in
        rw (y.packet, message, add-one (sent_of w x j))
        (sym (packet_next (c_of w x) (p_of w x) (all x) (s.orderly x) y.n (sent_of w x j) y.inside y.starts y.ends))

    names_after : {log : List Send} → Logged w all log
        → map name_of (keep (is_on x (route_of w x j)) (log ++ slot_sends w)) ≡ take (sent_of (moved w) x j) packets
    names_after {log} known =
        names_append (is_on x (route_of w x j)) log (slot_sends w)
        ∙ rw (known.names x j h i, sends_on_lem s.sound x j h i) (go (leaves w x j) refl)
      where
        go : (b : Bool) → leaves w x j ≡ b
            → take (sent_of w x j) packets ++ map name_of (elim b [ true ↦ send_at w (route_of w x j) x j ∷ [] | false ↦ [] ])
            ≡ take (sent_of (moved w) x j) packets
        go true e = rw (sent_goes s.sound x j h i e) (one_more e)
        go false e = rw (sent_stays s.sound x j h i e) (append-nil (take (sent_of w x j) packets))

  numbers : (x : ℕ) → IsChannel w x → SameNumbers w (moved w) x
  numbers = settled_numbers s.sound (moved_settled s.sound)

  pub slot_logged : Steady w all → {log : List Send} → Logged w all log → Logged (moved w) all (log ++ slot_sends w)
  slot_logged on {log} known = record {
    names = λ x j h i.
        let old : IsChannel w x = rw (channels_same (moved_settled s.sound)) at h in
        let place : j < hops_of w x = rw (numbers x old).hops_are at i in
        rw ((numbers x old).route_is j place) (names_after x j old place known);
    timely = timely_kept numbers all all (λ x h. as_long (all x) (all x) refl) (log ++ slot_sends w)
        (every_append (InTime w all) log (slot_sends w) known.timely (slot_timely s on));
  }
