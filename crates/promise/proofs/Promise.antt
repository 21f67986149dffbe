-- The theorem: our library keeps all that specs/Promise.antt promises, whatever calls come in whatever order. Set-up makes the
-- invariant, each call keeps it, and each statement follows from it.
use Prim.Native.Nat.{ℕ}
use mathlib.Core.Path.{◌≡◌, refl, ap, ◌∙◌, sym}
use mathlib.Core.List.{List, ◌++◌, append-nil}
use native.Mathlib.Omega.{arith}
use Rattle.std.specs.declared.result.Result.{Result}
use Rattle.std.specs.declared.result.Result.TheVariants.{Ok, Err}
use Rattle.kinds.specs.declared.Refusal.{Refusal}
use Rattle.kinds.specs.declared.Refusal.TheVariants.{Range, RouteLength, NoLink, LinkTwice, LinksApart, ChannelsFull, RowsFull}
use Rattle.kinds.specs.declared.Refusal.TheVariants.{NoResponse, OverD, BufferFull, NoChannel, MessageLength, Burst, EndSlot}
use Rattle.kinds.specs.declared.Refusal.TheVariants.{OutShort, BadLinks, NotSound, BadTable}
use Rattle.kinds.specs.Refusals.{number_of}
use Rattle.offer_rules.specs.declared.Accepted.{Accepted}
use Rattle.store.specs.Layout.{Store, channels_of, clock_of}
use Rattle.store.proofs.Laws.Sound.{is_sound}
use Rattle.setup.specs.SetUp.{set_up_answer}
use Rattle.open_rules.specs.Request.{Request}
use Rattle.open_rules.specs.Open.{open_outcome, open_answer, open_store}
use Rattle.offer_rules.specs.Offer.{offer_answer, offer_store}
use Rattle.slot_rules.specs.Slot.{slot_turn, slot_number}
use Rattle.open_keeps.proofs.Kept.{clock_kept}
use Rattle.offer_keeps.proofs.Frame.{offered_clock}
use Rattle.open.proofs.Outcome.{outcome_is}
use Rattle.open.proofs.Laws.{accepted_number, never_17 as open_never}
use Rattle.promise_open.proofs.Granted.{open_kept, refused_store as refused_open}
use Rattle.promise_offer.proofs.Answer.{accepted_is, never_17 as offer_never}
use Rattle.promise_slot.proofs.Never.{never_17 as slot_never}
use Rattle.promise.specs.Calls.{refused, numbered, open_numbered}
use Rattle.promise.specs.Calls.{Call, Event, store_after, events_in, open_events, offer_events, Reached}
use Rattle.promise.specs.Ours.{ours, Demand3}
use Rattle.promise.specs.Promise.{NewNumber, Never17, Promise}
use Rattle.promise.specs.Calls.Call.{opens, offers, runs, skips}
use Rattle.promise.specs.Calls.Reached.{fresh, next}
use Rattle.promise.proofs.Invariant.{Invariant, as_opened}
use Rattle.promise.proofs.Opened.{known, sends_count}
use Rattle.promise.proofs.Rows.{listed, route_is}
use Rattle.promise.proofs.Holds.{never_over, in_order, conserved}
use Rattle.promise.proofs.Network.{fresh_clock}
use Rattle.promise.proofs.Open.{set_up_makes, open_keeps}
use Rattle.promise.proofs.Offer.{offer_keeps}
use Rattle.promise.proofs.Slot.{slot_call}
use Rattle.promise.proofs.Skip.{number_same, skip_keeps, idles, skips as skips_are, idle_never, skip_never}
use Rattle.promise.proofs.Slots.{slots}
use Rattle.promise.proofs.Own.{own_answer_lem}
use Rattle.promise.proofs.Arrives.{never_late, arrives}

refused_offer : (w : Store) (x packets : ℕ) (refusal : Refusal) → offer_answer w x packets ≡ Err refusal
    → offer_store w x packets ≡ w
unfolding offer_store
refused_offer w x packets refusal e = rw e

-- the refusal with the number 17
is_17 : (refusal : Refusal) → number_of refusal ≡ 17 → refusal ≡ NotSound
is_17 Range e = absurd (omega arith)
is_17 RouteLength e = absurd (omega arith)
is_17 (NoLink place) e = absurd (omega arith)
is_17 (LinkTwice place) e = absurd (omega arith)
is_17 (LinksApart place) e = absurd (omega arith)
is_17 ChannelsFull e = absurd (omega arith)
is_17 (RowsFull place) e = absurd (omega arith)
is_17 (NoResponse place) e = absurd (omega arith)
is_17 OverD e = absurd (omega arith)
is_17 (BufferFull place) e = absurd (omega arith)
is_17 NoChannel e = absurd (omega arith)
is_17 MessageLength e = absurd (omega arith)
is_17 Burst e = absurd (omega arith)
is_17 EndSlot e = absurd (omega arith)
is_17 OutShort e = absurd (omega arith)
is_17 (BadLinks place) e = absurd (omega arith)
is_17 NotSound e = refl
is_17 BadTable e = absurd (omega arith)

-- An answer of ours whose refusal has the number 17; one that is no refusal.
module _ {A : Type 0} where
  was_17 : (a : Result A Refusal) (place : ℕ) → numbered a ≡ refused 17 place → a ≡ Err NotSound
  was_17 (Ok x) place e = absurd (let y : ◌≡◌ {A = ℕ} 0 1 = cc in omega arith)
  was_17 (Err refusal) place e = rw (is_17 refusal (number_same e))

  was_ok : (a : Result A Refusal) (x : A) → numbered a ≡ Ok x → a ≡ Ok x
  was_ok (Ok y) x e = let z : y ≡ x = cc in rw z
  was_ok (Err refusal) x e = absurd (let y : ◌≡◌ {A = ℕ} 0 1 = cc in omega arith)

module _ {links : List ℕ} {w : Store} {h : List Event} (i : Invariant links w h) where
  -- each call; a refused one changes nothing
  open_call : (q : Request) → Invariant links (store_after ours (opens q) w) (h ++ events_in ours (opens q) w)
  unfolding store_after events_in open_events
  open_call q = go (open_outcome w q) (open_answer w q).outcome refl (outcome_is w q)
    where
      go : (o o' : Result ℕ Refusal) → open_outcome w q ≡ o → o' ≡ o
          → Invariant links (open_store w q) (h ++ open_events (numbered o') q (open_numbered (open_answer w q)))
      go (Ok n) o' e f = rw f (open_keeps i q n e)
      go (Err refusal) o' e f = rw (refused_open w q refusal e, f, append-nil h) i

  offer_call : (x packets : ℕ)
      → Invariant links (store_after ours (offers x packets) w) (h ++ events_in ours (offers x packets) w)
  unfolding store_after events_in offer_events
  offer_call x packets = go (offer_answer w x packets) refl
    where
      go : (a : Result Accepted Refusal) → offer_answer w x packets ≡ a
          → Invariant links (offer_store w x packets) (h ++ offer_events (numbered (offer_answer w x packets)) x packets)
      go (Ok a) e = rw e (offer_keeps i x packets a e)
      go (Err refusal) e = rw (refused_offer w x packets refusal e, e, append-nil h) i

  any_call : (y : Call) → Invariant links (store_after ours y w) (h ++ events_in ours y w)
  unfolding store_after events_in
  any_call (opens q) = open_call q
  any_call (offers x packets) = offer_call x packets
  any_call (runs size) = slot_call i size
  any_call (skips n) = rw (append-nil h) (skip_keeps i n)

  -- an open and an offer leave the clock alone
  open_clock : (q : Request) → clock_of (open_store w q) ≡ clock_of w
  open_clock q = go (open_outcome w q) refl
    where
      go : (o : Result ℕ Refusal) → open_outcome w q ≡ o → clock_of (open_store w q) ≡ clock_of w
      go (Ok n) e = clock_kept (open_kept q n e)
      go (Err refusal) e = ap clock_of (refused_open w q refusal e)

  offer_clock : (x packets : ℕ) → clock_of (offer_store w x packets) ≡ clock_of w
  offer_clock x packets = go (offer_answer w x packets) refl
    where
      go : (a : Result Accepted Refusal) → offer_answer w x packets ≡ a → clock_of (offer_store w x packets) ≡ clock_of w
      go (Ok a) e = ap clock_of (accepted_is w x packets a e).store_is ∙ offered_clock w x packets
      go (Err refusal) e = ap clock_of (refused_offer w x packets refusal e)

  slot_number_lem : (size : ℕ) (t : Result (Unit {0}) Refusal) → slot_turn w size ≡ t → slot_number w size ≡ 17 → ⊥
  slot_number_lem size (Ok ran) e f = let z : ◌≡◌ {A = ℕ} 0 17 = rw e at f in omega arith
  slot_number_lem size (Err refusal) e f =
      let z : number_of refusal ≡ 17 = rw e at f in
      slot_never i.seen i.steady i.near size (rw (is_17 refusal z) at e)

  new_number : NewNumber ours links w h
  new_number q x e o =
      let number : x ≡ channels_of w = accepted_number w q x (sym (outcome_is w q) ∙ was_ok (open_answer w q).outcome x e) in
      omega (arith, number, known i o)

  never_17 : Never17 ours links w h
  never_17 = (
    (λ q place e. open_never w q (is_sound w i.seen.sound) (sym (outcome_is w q) ∙ was_17 (open_answer w q).outcome place e)),
    (λ x packets place e. offer_never i.seen i.steady i.burst x packets (was_17 (offer_answer w x packets) place e)),
    (λ size e. slot_number_lem size (slot_turn w size) refl (omega (arith, e))),
    idle_never i,
    skip_never i,
  )

-- the invariant of every store that is reached
holds : (links : List ℕ) (w : Store) (h : List Event) → Reached ours links w h → Invariant links w h
holds links w h (fresh w₀ e) = set_up_makes w₀ links (was_ok (set_up_answer w₀ links) tt e)
holds links w h (next w₀ h₀ r y) = any_call (holds links w₀ h₀ r) y

all_holds : (links : List ℕ) (w : Store) (h : List Event) → Reached ours links w h → Promise ours links w h
all_holds links w h r =
    let i : Invariant links w h = holds links w h r in
    record {
      never_late = never_late i;
      never_over = never_over i;
      in_order = in_order i;
      arrives = arrives i;
      conserved = conserved i;
      slots = slots i;
      clock_stays = (open_clock i, offer_clock i);
      idles = idles i;
      skips = skips_are i;
      never_17 = never_17 i;
      new_number = new_number i;
      own_rule = λ x o packets. own_answer_lem i x o.request o.answer (as_opened i x o) packets;
      route_is = route_is i;
      as_set_up = i.network;
      as_opened = as_opened i;
      listed = λ l m. listed i l (rw i.network.links_are m);
      counted = λ x o j l. sym (sends_count i o j l);
      was_opened = i.known;
    }

pub promise : Demand3
promise = record { starts = λ w links e. fresh_clock w links (was_ok (set_up_answer w links) tt e); holds = all_holds }
