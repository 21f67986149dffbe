-- A slot keeps the invariant.
use Prim.Native.Nat.{ℕ, ◌<◌}
use mathlib.Core.Path.{◌≡◌, refl, ◌∙◌, fun_ext}
use mathlib.Core.List.{List, [], ◌∷◌, ◌++◌, map, append-nil}
use native.Mathlib.Omega.{arith}
use borrow.Author.Tests.{ltb-true}
use Rattle.std.specs.declared.result.Result.{Result}
use Rattle.std.specs.declared.result.Result.TheVariants.{Ok, Err}
use Rattle.kinds.specs.declared.Refusal.{Refusal}
use Rattle.schedule.specs.Lists.{Every}
use Rattle.kinds.specs.Ranges.{end_slot}
use Rattle.schedule.proofs.Lists.{every_append}
use Rattle.store.specs.Layout.{Store, clock_of}
use Rattle.store_same.proofs.Settled.{channels_same, network_same}
use Rattle.checks.proofs.Laws.{accepted_all}
use Rattle.slot_rules.specs.Slot.{Send, slot_sends, moved, slot_checks, slot_turn, slot_sent, slot_store}
use Rattle.slot_keeps.proofs.After.{moved_settled}
use Rattle.promise_view.specs.View.{Accepted}
use Rattle.promise_slot.proofs.Steady.{steady_after}
use Rattle.promise_slot.proofs.Kept.{near_after, in_burst_after, within_after}
use Rattle.promise_slot.proofs.Sound.{seen_after}
use Rattle.promise_sends.proofs.After.{slot_logged}
use Rattle.promise_queue.proofs.More.{as_long}
use Rattle.promise.specs.Calls.{Event}
use Rattle.promise.specs.Happened.{packets_in, sends_in}
use Rattle.promise.specs.Calls.Event.{sent}
use Rattle.store_same.proofs.Numbers.{settled_numbers}
use Rattle.promise.proofs.History.{messages_in, messages_same, packets_same, sends_without, sends_on_lem, sends_sent}
use Rattle.promise.proofs.Network.{network_kept}
use Rattle.promise.proofs.Invariant.{Invariant, EventIs, still_opened}
use Rattle.promise.proofs.Events.{events_stay}

events_of : (w : Store) (all : Accepted) (xs : List Send) → Every (EventIs w all) (map sent xs)
events_of w all [] = tt
events_of w all (y ∷ xs) = (tt, events_of w all xs)

module _ {links : List ℕ} {w : Store} {h : List Event} (i : Invariant links w h) (size : ℕ) (r : slot_turn w size ≡ Ok tt) where
  abbrev sends : List Event
  sends = map sent (slot_sends w)

  running : clock_of w < end_slot
  unfolding slot_turn
  running =
      let all = accepted_all Err (slot_checks w size) (Ok (tt {0})) (Ok (tt {0})) (λ m (e : ◌≡◌ {A = Result (Unit {0}) Refusal} (Err m) (Ok (tt {0}))). let z : ◌≡◌ {A = ℕ} 0 1 = cc in omega arith) r in
      ltb-true (clock_of w) end_slot all.1.0

  without : (x : ℕ) → messages_in (h ++ sends) x ≡ messages_in h x
  without x = messages_same x h sends (sends_without x (slot_sends w))

  packets : (x : ℕ) → packets_in (h ++ sends) x ≡ packets_in h x
  packets x = packets_same x h sends (sends_without x (slot_sends w))

  same : messages_in (h ++ sends) ≡ messages_in h
  same = fun_ext without

  all_sends : sends_in (h ++ sends) ≡ sends_in h ++ slot_sends w
  all_sends = sends_on_lem h sends ∙ rw (sends_sent (slot_sends w))

  after : Invariant links (moved w) (h ++ sends)
  after = record {
    network = network_kept i.seen.sound.counts.links_most (network_same (moved_settled i.seen.sound)) i.network;
    seen = rw same (seen_after i.seen i.steady i.near running);
    steady = rw same (steady_after i.seen i.steady);
    near = rw same (near_after i.seen i.near);
    burst = rw same (in_burst_after i.seen i.burst);
    within = within_after i.seen i.within;
    logged = rw (same, all_sends) (slot_logged i.seen i.steady i.logged);
    names = λ x. rw (packets x, without x) (i.names x);
    logicals = λ x. rw (packets x, without x) (i.logicals x);
    events = rw same (every_append (EventIs (moved w) (messages_in h)) h sends
        (events_stay (settled_numbers i.seen.sound (moved_settled i.seen.sound))
        (λ x k. as_long (messages_in h x) (messages_in h x) refl) h i.events)
        (events_of (moved w) (messages_in h) (slot_sends w)));
    known = λ x k. still_opened h sends x (i.known x (rw (channels_same (moved_settled i.seen.sound)) at k));
  }

-- a slot that is refused changes nothing
pub slot_call : {links : List ℕ} {w : Store} {h : List Event} → Invariant links w h → (size : ℕ)
    → Invariant links (slot_store w size) (h ++ map sent (slot_sent w size))
slot_call {links} {w} {h} i size = go (slot_turn w size) refl
  where
    go : (t : Result (Unit {0}) Refusal) → slot_turn w size ≡ t → Invariant links (slot_store w size) (h ++ map sent (slot_sent w size))
    go (Ok ran) e = rw e (after i size e)
    go (Err refusal) e = rw (e, append-nil h) i
