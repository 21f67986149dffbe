-- A channel as its open had it and as events tell of it, and the same channel as the store has it.
use Prim.Native.Nat.{ℕ, zero, suc, ◌+◌, ◌-◌, ◌≤◌, ◌<◌, min}
use mathlib.Core.Path.{◌≡◌, ap, ◌∙◌, sym}
use mathlib.Core.List.{List}
use native.Mathlib.Omega.{arith}
use lib.ListN.{length, get_or, take, drop, length-map, length-take}
use lib.Seq.{take_all}
use Rattle.schedule.specs.Messages.{Message, Orderly, ended}
use Rattle.store.specs.Layout.{Store, number_at, c_of, p_of, hops_of, route_of, delay_of, sent_of, IsChannel}
use Rattle.folds.specs.Folds.{sum_to}
use Rattle.store.specs.Amounts.{entered_of}
use Rattle.folds.proofs.Folds.{sum_same}
use Rattle.store.proofs.Laws.Sound.{ChannelIs}
use Rattle.promise_queue.specs.Queue.{time_at, end_after, packets_from}
use Rattle.promise_queue.proofs.Packets.{packets_length}
use Rattle.promise_view.proofs.Counted.{accepted_count, sent_most}
use Rattle.promise_sends.specs.Sends.{name_of as name_sent}
use Rattle.promise.specs.Calls.{Event}
use Rattle.promise.specs.Happened.{Packet, name_of, packets_in, sends_on, WasOpened, places, link_at, sends_at, come_to, held_at}
use Rattle.promise.specs.Happened.{logical_at}
use Rattle.promise.specs.Happened.{deadline_at}
use Rattle.promise.specs.Promise.{AsOpened}
use Rattle.promise.proofs.History.{messages_in}
use Rattle.promise.proofs.Packets.{every_get, Of, packets_count, packet_name}
use Rattle.promise.proofs.Invariant.{Invariant, Timed, as_opened}

-- where there is none
pub none : Packet
none = record { message = 0; packet = 0; logical = 0 }

module _ {links : List ℕ} {w : Store} {h : List Event} (i : Invariant links w h) {x : ℕ} (o : WasOpened h x) where
  abbrev ms : List Message
  ms = messages_in h x

  is : AsOpened w x o.request o.answer
  is = as_opened i x o

  pub known : IsChannel w x
  known = is.number

  pub own : ChannelIs w x
  own = i.seen.sound.channel x known

  pub order : Orderly (c_of w x) (p_of w x) 0 0 ms
  order = i.seen.orderly x

  -- its packets are as many as its messages have
  pub count : length (packets_in h x) ≡ ended 0 ms
  count = packets_count (c_of w x) (p_of w x) ms order (packets_in h x) (i.names x) none

  -- packet number u, which is of message n
  abbrev pub at : (u : ℕ) → Packet
  at u = get_or (packets_in h x) u none

  module _ (u n : ℕ) (of : Of ms u n) (there : u < length (packets_in h x)) where
    name : name_of (at u) ≡ (n, u - end_after ms n)
    name = packet_name (c_of w x) (p_of w x) ms order (packets_in h x) (i.names x) none u n of (omega (arith, count))

    pub message_is : (at u).message ≡ n
    message_is = ap (λ (y : ℕ × ℕ). y.0) name

    pub packet_is : (at u).packet ≡ u - end_after ms n
    packet_is = ap (λ (y : ℕ × ℕ). y.1) name

    pub time_is : (at u).logical ≡ time_at ms n
    time_is = (every_get (Timed ms) none (packets_in h x) (i.logicals x) u there).1 ∙ ap (time_at ms) message_is

  -- a place of the route, and the link there
  pub inside : (j : ℕ) → j < places o → j < hops_of w x
  inside j l = rw is.hops_are l

  pub link_is : (j : ℕ) → j < places o → link_at o j ≡ route_of w x j
  link_is j l = sym (is.route_is j l)

  -- as many sends as the store counts
  pub sends_count : (j : ℕ) → j < places o → length (sends_at o j) ≡ sent_of w x j
  sends_count j l = rw (link_is j l) (sent_there (inside j l))
    where
      sent_there : j < hops_of w x → length (sends_on h x (route_of w x j)) ≡ sent_of w x j
      sent_there k =
          let all : List (ℕ × ℕ) = packets_from 0 0 ms in
          let e : length (take (sent_of w x j) all) ≡ min (sent_of w x j) (length all) = length-take (sent_of w x j) all in
          sym (length-map (sends_on h x (route_of w x j)) name_sent) ∙ (ap length (i.logged.names x j known k)
          ∙ omega (arith, sent_most own (i.seen.told x known) j k, packets_length (c_of w x) (p_of w x) ms order))

  -- what has come to a place, and what it holds
  come_is : (j : ℕ) → j < places o → come_to o j ≡ take (entered_of w x j) (packets_in h x)
  unfolding entered_of
  come_is zero l =
      sym (take_all (entered_of w x 0) (packets_in h x) (omega (arith, count, accepted_count (i.seen.told x known))))
  come_is (suc j) l = rw (sends_count j (omega arith))

  pub held_is : (j : ℕ) → j < places o → held_at o j ≡ drop (sent_of w x j) (take (entered_of w x j) (packets_in h x))
  held_is j l = rw (sends_count j l, come_is j l)

  -- logical times and deadlines
  delays_are : (n : ℕ) → n ≤ places o → sum_to (number_at o.answer.delays) n ≡ sum_to (delay_of w x) n
  delays_are n l = sum_same (number_at o.answer.delays) (delay_of w x) n (λ j k. sym (is.delay_is j (omega arith)))

  pub logical_is : (j time : ℕ) → j < places o → logical_at o j time ≡ time + sum_to (delay_of w x) j
  logical_is j time l = rw (delays_are j (omega arith))

  pub deadline_is : (j time : ℕ) → j < places o → deadline_at o j time ≡ time + sum_to (delay_of w x) (suc j)
  unfolding sum_to
  deadline_is j time l = omega (arith, logical_is j time l, is.delay_is j l)
