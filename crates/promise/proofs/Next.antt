-- The packet that goes next at a place leads all that are held there: "within a channel: message order, then packet order".
use Prim.Native.Nat.{ℕ, ◌-◌, ◌≤◌, ◌<◌}
use mathlib.Core.Path.{◌≡◌}
use mathlib.Core.Logic.{inl, inr}
use mathlib.Core.List.{List}
use native.Mathlib.Decide.{dec_lt}
use native.Mathlib.Omega.{arith}
use lib.ListN.{length}
use Rattle.schedule.specs.Lists.{◌∈◌}
use Rattle.schedule.specs.Messages.{Message}
use Rattle.store.specs.Layout.{Store, c_of, p_of, sent_of}
use Rattle.store.specs.Amounts.{entered_of}
use Rattle.folds.specs.Folds.{sum_to}
use Rattle.slot_rules.specs.Head.{message_of, packet_of, logical_of, deadline_of}
use Rattle.slot_rules.proofs.Laws.Head.{entered_most}
use Rattle.promise_queue.specs.Queue.{end_after, passed}
use Rattle.promise_queue.proofs.Ends.{no_later_lem, time_mono}
use Rattle.promise_view.proofs.Counted.{accepted_count}
use Rattle.promise_view.proofs.Next.{NextIs, next_is}
use Rattle.promise.specs.Calls.{Event}
use Rattle.promise.specs.Happened.{Packet, packets_in, WasOpened, places, held_at, logical_at, deadline_at}
use Rattle.promise.specs.Promise.{First}
use Rattle.promise.proofs.History.{messages_in}
use Rattle.promise.proofs.Packets.{NumberIs, number_in, first_in, Of, message_of_lem}
use Rattle.promise.proofs.Invariant.{Invariant}
use Rattle.promise.proofs.Opened.{none, at, known, own, order, count, message_is, packet_is, time_is, inside, held_is}
use Rattle.promise.proofs.Opened.{logical_is, deadline_is}

-- by message, then by packet
abbrev pub Before : (i k : Packet) → Type 0
Before i k = First i.message k.message (i.packet ≤ k.packet)

module _ {links : List ℕ} {w : Store} {h : List Event} (i : Invariant links w h) {x : ℕ} (o : WasOpened h x) (j : ℕ)
    (here : j < places o) where
  abbrev ms : List Message
  ms = messages_in h x

  -- the number of a packet that is held there
  pub number_of : (y : Packet) → y ∈ held_at o j → NumberIs none (packets_in h x) (sent_of w x j) (entered_of w x j) y
  number_of y m = number_in none (packets_in h x) (sent_of w x j) (entered_of w x j) y (rw (held_is i o j here) at m)

  -- the one that goes next
  module _ (some : sent_of w x j < entered_of w x j) where
    abbrev pub first : Packet
    first = at i o (sent_of w x j)

    y : NextIs w x j ms
    y = next_is (own i o) (i.seen.told x (known i o)) j (inside i o j here) some

    there : sent_of w x j < length (packets_in h x)
    there =
        omega (
          arith,
          some,
          entered_most (own i o) j (inside i o j here),
          accepted_count (i.seen.told x (known i o)),
          count i o,
        )

    of : Of ms (sent_of w x j) y.n
    of = record { inside = y.inside; starts = y.starts; ends = y.ends }

    pub first_held : first ∈ held_at o j
    first_held = rw (held_is i o j here) (first_in none (packets_in h x) (sent_of w x j) (entered_of w x j) some there)

    -- as the store has it
    pub first_message : message_of w x j - 1 ≡ first.message
    first_message = omega (arith, y.number, message_is i o (sent_of w x j) y.n of there)

    pub first_packet : packet_of w x j ≡ first.packet
    first_packet = omega (arith, y.packet, packet_is i o (sent_of w x j) y.n of there)

    pub first_logical : logical_at o j first.logical ≡ logical_of w x j
    first_logical =
        omega (
          arith,
          logical_is i o j first.logical here,
          time_is i o (sent_of w x j) y.n of there,
          y.logical,
        )

    pub first_deadline : deadline_at o j first.logical ≡ deadline_of w x j
    unfolding sum_to
    first_deadline =
        omega (
          arith,
          deadline_is i o j first.logical here,
          time_is i o (sent_of w x j) y.n of there,
          y.logical,
        )

    -- no other is before it
    module _ (u : ℕ) (least : sent_of w x j ≤ u) (inside_list : u < length (packets_in h x)) where
      abbrev n : ℕ
      n = passed u ms

      of_u : Of ms u n
      of_u = message_of_lem (c_of w x) (p_of w x) ms (order i o) u (omega (arith, count i o))

      message_later : y.n ≤ n
      message_later = no_later_lem (c_of w x) (p_of w x) ms (order i o) u n y.n (omega (arith, y.starts)) of_u.ends

      pub time_later : first.logical ≤ (at i o u).logical
      time_later =
          omega (
            arith,
            time_is i o (sent_of w x j) y.n of there,
            time_is i o u n of_u inside_list,
            time_mono (c_of w x) (p_of w x) ms (order i o) y.n n message_later of_u.inside,
          )

      pub first_before : Before first (at i o u)
      first_before = go (dec_lt y.n n)
        where
          go : Dec (y.n < n) → Before first (at i o u)
          go (yes l) =
              inl (omega (arith, l, message_is i o (sent_of w x j) y.n of there, message_is i o u n of_u inside_list))
          go (no l) =
              let same : y.n ≡ n = omega (arith, l, message_later) in
              let mine = packet_is i o (sent_of w x j) y.n of there in
              let its : (at i o u).packet ≡ u - end_after ms y.n = rw same (packet_is i o u n of_u inside_list) in
              inr (
                omega (arith, same, message_is i o (sent_of w x j) y.n of there, message_is i o u n of_u inside_list),
                omega (arith, mine, its, least),
              )
