-- "whether a message is accepted, and its logical time, depends only on that channel's numbers, its own accepted messages, the
-- packets offered and the present slot".
use Prim.Native.Nat.{ℕ, zero, suc, ◌-◌, ◌*◌}
use mathlib.Core.Path.{◌≡◌, refl, ap, ◌∙◌, sym}
use mathlib.Core.Bool.{Bool, true, false}
use mathlib.Core.List.{List, map}
use lib.Dec.{leb, ltb}
use lib.ListN.{length, length-map}
use borrow.Author.Tests.{ltb-true, lt-ltb}
use Rattle.kinds.specs.Ranges.{within, end_slot}
use Rattle.kinds.proofs.Laws.{within_true}
use Rattle.store.specs.Layout.{Store, channels_of, clock_of, c_of, messages_of, is_channel}
use Rattle.store.specs.Sound.{sound_of}
use Rattle.store.proofs.Laws.Sound.{is_sound}
use Rattle.checks.specs.Checks.{first_failed}
use Rattle.schedule.specs.Messages.{Message}
use Rattle.open_rules.specs.Request.{Request}
use Rattle.offer_rules.specs.Offer.{offer_time, in_burst, offered, offer_answer}
use Rattle.promise_offer.proofs.Time.{offer_time_first, offer_time_next}
use Rattle.promise_offer.proofs.Seen.{offer_sound}
use Rattle.promise.specs.Calls.{OpenAnswer, Event, numbered}
use Rattle.promise.specs.Happened.{times_in}
use Rattle.promise.specs.Promise.{own_time, own_answer, AsOpened}
use Rattle.promise.proofs.History.{messages_in, times_are, own_first, own_next}
use Rattle.promise.proofs.Invariant.{Invariant}

module _ {links : List ℕ} {w : Store} {h : List Event} (i : Invariant links w h) (x : ℕ) (q : Request) (answer : OpenAnswer)
    (o : AsOpened w x q answer) (packets : ℕ) where
  abbrev ms : List Message
  ms = messages_in h x

  times : times_in h x ≡ map (λ m. m.time) ms
  times = times_are 0 h x

  -- the logical time
  time_is : offer_time w x ≡ own_time q.p (clock_of w) (times_in h x)
  time_is = rw times (go (length ms) refl)
    where
      go : (n : ℕ) → length ms ≡ n → offer_time w x ≡ own_time q.p (clock_of w) (map (λ m. m.time) ms)
      go zero e = offer_time_first (i.seen.told x o.number) e ∙ sym (own_first q.p (clock_of w) ms e)
      go (suc n) e =
          offer_time_next (i.seen.told x o.number) n e
          ∙ rw o.p_is (sym (own_next q.p (clock_of w) ms n e))

  count_is : messages_of w x ≡ length (times_in h x)
  count_is = (i.seen.told x o.number).count ∙ (sym (length-map ms (λ m. m.time)) ∙ ap length (sym times))

  burst_is : in_burst w x ≡ leb (own_time q.p (clock_of w) (times_in h x) - clock_of w) ((q.b - 1) * q.p)
  burst_is = rw (time_is, o.b_is, o.p_is)

  -- the first three checks that an offer of this channel can fail, as the rule has them
  known : is_channel w x ≡ true
  known = lt-ltb x (channels_of w) o.number

  size_is : within 1 (c_of w x) packets ≡ within 1 q.c packets
  size_is = rw o.c_is

  -- and where they hold, the store after the offer is sound
  sound : ltb (clock_of w) end_slot ≡ true → within 1 q.c packets ≡ true → in_burst w x ≡ true
      → sound_of (offered w x packets) ≡ true
  sound e f g =
      let size = within_true 1 (c_of w x) packets (size_is ∙ f) in
      offer_sound i.seen (record {
        running = ltb-true (clock_of w) end_slot e;
        known = o.number;
        least = size.0;
        most = size.1;
        burst = g;
      }) i.steady i.burst

  pub own_answer_lem : numbered (offer_answer w x packets) ≡ own_answer q (times_in h x) packets (clock_of w)
  unfolding offer_answer own_answer first_failed
  own_answer_lem = go (ltb (clock_of w) end_slot) (within 1 q.c packets) (in_burst w x) refl refl refl
    where
      go : (a b d : Bool) → ltb (clock_of w) end_slot ≡ a → within 1 q.c packets ≡ b → in_burst w x ≡ d
          → numbered (offer_answer w x packets) ≡ own_answer q (times_in h x) packets (clock_of w)
      go false b d e f g = rw (is_sound w i.seen.sound, e)
      go true false d e f g = rw (is_sound w i.seen.sound, e, known, size_is, f)
      go true true false e f g = rw (is_sound w i.seen.sound, e, known, size_is, f, g, ← burst_is, g)
      go true true true e f g =
          rw (is_sound w i.seen.sound, e, known, size_is, f, g, sound e f g, ← burst_is, g, ← count_is, ← time_is)
