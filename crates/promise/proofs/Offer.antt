-- An offer keeps the invariant.
use Prim.Native.Nat.{ℕ, zero, suc, ◌+◌, ◌-◌}
use mathlib.Core.Path.{◌≡◌, refl, ◌∙◌, sym}
use mathlib.Core.List.{List, [], ◌∷◌, ◌++◌, map, append-nil, map-append}
use native.Mathlib.Decide.{ℕ_discrete}
use native.Mathlib.Omega.{arith}
use lib.ListN.{length}
use Rattle.std.specs.declared.result.Result.TheVariants.{Ok}
use Rattle.offer_rules.specs.declared.Accepted.{Accepted}
use Rattle.schedule.specs.Lists.{Every}
use Rattle.schedule.specs.Messages.{Message, ended}
use Rattle.schedule.proofs.Lists.{every_append, every_imp}
use Rattle.store.specs.Layout.{Store}
use Rattle.store.specs.Amounts.{accepted_of}
use Rattle.store_same.proofs.Settled.{channels_same, network_same}
use Rattle.offer_rules.specs.Offer.{offered, offer_answer, offer_store}
use Rattle.promise_queue.specs.Queue.{packets_from, packets_of as names_of}
use Rattle.promise_queue.proofs.Ends.{end_all}
use Rattle.promise_queue.proofs.More.{length_more, time_new, end_old, end_new, Longer, as_long, one_longer}
use Rattle.promise_queue.proofs.Packets.{packets_more}
use Rattle.promise_view.proofs.Counted.{accepted_count}
use Rattle.promise_offer.proofs.Passed.{Passed, Adds, message}
use Rattle.promise_offer.proofs.Kept.{offer_settled}
use Rattle.promise_offer.proofs.Seen.{offer_seen}
use Rattle.promise_offer.proofs.Steady.{offer_steady}
use Rattle.promise_offer.proofs.Near.{offer_near, offer_in_burst, offer_within}
use Rattle.promise_offer.proofs.Answer.{AcceptedIs, accepted_is}
use Rattle.promise_sends.proofs.Offer.{offer_logged}
use Rattle.promise.specs.Calls.{Event}
use Rattle.promise.specs.Happened.{Packet, packets_of, packets_in, sends_in, name_of}
use Rattle.promise.specs.Calls.Event.{accepted}
use Rattle.store_same.proofs.Numbers.{settled_numbers}
use Rattle.promise.proofs.History.{messages_in, messages_same, messages_new, packets_same, packets_new, sends_on_lem}
use Rattle.promise.proofs.Network.{network_kept}
use Rattle.promise.proofs.Invariant.{Invariant, IsMessage, EventIs, Timed, still_opened}
use Rattle.promise.proofs.Events.{events_stay}

-- the packets of a message by name, and their logical time
pub names_of_lem : (message logical k : ℕ) → map name_of (packets_of message logical k) ≡ names_of message k
unfolding packets_of names_of
names_of_lem m l zero = refl
names_of_lem m l (suc k) =
    map-append name_of (packets_of m l k) (record { message = m; packet = k; logical = l } ∷ []) ∙ rw (names_of_lem m l k)

logicals_of : (P : Packet → Type 0) (message logical k : ℕ)
    → ((u : Packet) → u.message ≡ message → u.logical ≡ logical → P u) → Every P (packets_of message logical k)
unfolding packets_of
logicals_of P m l zero f = tt
logicals_of P m l (suc k) f =
    every_append P (packets_of m l k) (record { message = m; packet = k; logical = l } ∷ []) (logicals_of P m l k f)
    (f _ refl refl, tt)

module _ {links : List ℕ} {w : Store} {h : List Event} (i : Invariant links w h) (x packets : ℕ) (y : Accepted)
    (a : offer_answer w x packets ≡ Ok y) where
  abbrev n : ℕ
  n = y.message

  abbrev time : ℕ
  time = y.time

  abbrev one : List Event
  one = accepted x n time packets ∷ []

  abbrev all : (u : ℕ) → List Message
  all = messages_in h

  abbrev more : (u : ℕ) → List Message
  more = messages_in (h ++ one)

  is : AcceptedIs w x packets y
  is = accepted_is w x packets y a

  p : Passed w x packets
  p = is.passed

  -- message n is the next one
  number : n ≡ length (all x)
  number = is.number_is ∙ (i.seen.told x p.known).count

  new : more x ≡ all x ++ (message w x packets ∷ [])
  new = messages_new x h n time packets ∙ rw (is.time_is, ← accepted_count (i.seen.told x p.known))

  same : (u : ℕ) → (u ≡ x → ⊥) → more u ≡ all u
  same u e = messages_same u h one ((λ f. e (sym f)), tt)

  adds : Adds w x packets all more
  adds = record { new = new; same = same }

  longer : (u : ℕ) → Longer (all u) (more u)
  longer u = go (ℕ_discrete u x)
    where
      go : Dec (u ≡ x) → Longer (all u) (more u)
      go (yes e) = rw e (one_longer (all x) (more x) (message w x packets) new)
      go (no e) = as_long (all u) (more u) (same u e)

  same_sends : sends_in (h ++ one) ≡ sends_in h
  unfolding sends_in
  same_sends = sends_on_lem h one ∙ append-nil (sends_in h)

  -- its packets
  names : (u : ℕ) → map name_of (packets_in (h ++ one) u) ≡ packets_from 0 0 (more u)
  names u = go (ℕ_discrete u x)
    where
      go : Dec (u ≡ x) → map name_of (packets_in (h ++ one) u) ≡ packets_from 0 0 (more u)
      go (yes e) =
          let ends : ended 0 (all x) ≡ accepted_of w x = sym (accepted_count (i.seen.told x p.known)) in
          let size : accepted_of w x + packets - ended 0 (all x) ≡ packets = omega arith in
          rw (e, packets_new x h n time packets, new)
          (map-append name_of (packets_in h x) (packets_of n time packets)
          ∙ (rw (i.names x, names_of_lem n time packets, packets_more (all x) (message w x packets), size, ← number)))
      go (no e) = rw (packets_same u h one ((λ f. e (sym f)), tt), same u e) (i.names u)

  timed : (u : ℕ) (y : Packet) → Timed (all u) y → Timed (more u) y
  timed u y t = (omega (arith, t.0, (longer u).count), t.1 ∙ sym ((longer u).time y.message t.0))

  logicals : (u : ℕ) → Every (Timed (more u)) (packets_in (h ++ one) u)
  logicals u = go (ℕ_discrete u x)
    where
      old : Every (Timed (more u)) (packets_in h u)
      old = every_imp (Timed (all u)) (Timed (more u)) (packets_in h u) (timed u) (i.logicals u)

      fresh : (y : Packet) → y.message ≡ n → y.logical ≡ time → Timed (more x) y
      fresh y e f =
          rw (e, f, new, number)
          (omega (arith, length_more (all x) (message w x packets)), is.time_is ∙ sym (time_new (all x) (message w x packets)))

      go : Dec (u ≡ x) → Every (Timed (more u)) (packets_in (h ++ one) u)
      go (yes e) =
          rw (e, packets_new x h n time packets)
          (every_append (Timed (more x)) (packets_in h x) (packets_of n time packets) (rw e at old)
          (logicals_of (Timed (more x)) n time packets fresh))
      go (no e) = rw (packets_same u h one ((λ f. e (sym f)), tt)) old

  is_message_lem : IsMessage (offered w x packets) more x n time packets
  is_message_lem = record {
    channel = (settled_numbers i.seen.sound (offer_settled i.seen.sound p) x p.known).there;
    inside = rw new (omega (arith, number, length_more (all x) (message w x packets)));
    time = rw (new, number, time_new (all x) (message w x packets)) (sym is.time_is);
    size = rw (new, number, end_new (all x) (message w x packets))
        (rw (end_old (all x) (message w x packets) (length (all x)) (omega arith), end_all (all x))
        (rw (accepted_count (i.seen.told x p.known))));
  }

  pub offer_keeps : Invariant links (offer_store w x packets) (h ++ (accepted x n time packets ∷ []))
  offer_keeps = rw is.store_is (record {
    network = network_kept i.seen.sound.counts.links_most (network_same (offer_settled i.seen.sound p)) i.network;
    seen = offer_seen i.seen p adds i.steady i.burst;
    steady = offer_steady i.seen p adds i.steady;
    near = offer_near i.seen p adds i.near;
    burst = offer_in_burst i.seen p adds i.burst;
    within = offer_within i.seen p i.within;
    logged = rw same_sends (offer_logged i.seen x packets p.known (message w x packets) new same i.logged);
    names = names;
    logicals = logicals;
    events = every_append (EventIs (offered w x packets) more) h one
        (events_stay (settled_numbers i.seen.sound (offer_settled i.seen.sound p)) (λ u k. longer u) h i.events)
        (is_message_lem, tt);
    known = λ u k. still_opened h one u (i.known u (rw (channels_same (offer_settled i.seen.sound p)) at k));
  })
