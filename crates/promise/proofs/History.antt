-- What has happened, when more happens: a channel's messages as crate `schedule` has them, its packets, the logical times, the
-- sends.
use Prim.Native.Nat.{ℕ, zero, suc, ◌+◌, max}
use mathlib.Core.Path.{◌≡◌, refl, ◌∙◌, sym}
use mathlib.Core.Bool.{Bool, true, false}
use mathlib.Core.List.{List, [], ◌∷◌, ◌++◌, map, append_assoc, append-nil}
use native.Mathlib.Omega.{arith}
use lib.Dec.{eqb}
use lib.ListN.{length}
use borrow.Author.Tests.{eq-eqb, ne_eqb}
use Rattle.schedule.specs.Messages.{Message, ended}
use Rattle.slot_rules.specs.Slot.{Send}
use Rattle.promise_queue.specs.Queue.{time_at}
use Rattle.promise.specs.Calls.{Event}
use Rattle.promise.specs.Happened.{packets_of, packets_in, times_in, sends_in}
use Rattle.promise.specs.Promise.{own_time}
use Rattle.promise.specs.Calls.Event.{opened, accepted, sent}

-- the messages accepted on channel x, those before them having `base` packets
unfoldable pub messages_from : (base : ℕ) → List Event → (x : ℕ) → List Message
messages_from base [] x = []
messages_from base (accepted u message logical packets ∷ h) x =
    elim (eqb u x) [
      | true ↦ record { time = logical; end = base + packets } ∷ messages_from (base + packets) h x
      | false ↦ messages_from base h x
    ]
messages_from base (opened u q answer ∷ h) x = messages_from base h x
messages_from base (sent u ∷ h) x = messages_from base h x

abbrev pub messages_in : List Event → (x : ℕ) → List Message
messages_in h x = messages_from 0 h x

module _ (x : ℕ) (more : List Event) where
  messages_on : (base : ℕ) (h : List Event)
      → messages_from base (h ++ more) x ≡ messages_from base h x ++ messages_from (ended base (messages_from base h x)) more x
  unfolding messages_from ended
  messages_on base [] = refl
  messages_on base (opened u q answer ∷ h) = messages_on base h
  messages_on base (sent u ∷ h) = messages_on base h
  messages_on base (accepted u m l k ∷ h) = go (eqb u x) refl (messages_on base h) (messages_on (base + k) h)
    where
      go : (b : Bool) → eqb u x ≡ b
          → messages_from base (h ++ more) x ≡ messages_from base h x ++ messages_from (ended base (messages_from base h x)) more x
          → messages_from (base + k) (h ++ more) x
          ≡ messages_from (base + k) h x ++ messages_from (ended (base + k) (messages_from (base + k) h x)) more x
          → messages_from base (accepted u m l k ∷ (h ++ more)) x
          ≡ messages_from base (accepted u m l k ∷ h) x
          ++ messages_from (ended base (messages_from base (accepted u m l k ∷ h) x)) more x
      go true e r s = rw (e, messages_from, ended, s)
      go false e r s = rw (e, messages_from, r)

  pub packets_on : (h : List Event) → packets_in (h ++ more) x ≡ packets_in h x ++ packets_in more x
  unfolding packets_in
  packets_on [] = refl
  packets_on (opened u q answer ∷ h) = packets_on h
  packets_on (sent u ∷ h) = packets_on h
  packets_on (accepted u m l k ∷ h) = go (eqb u x) refl (packets_on h)
    where
      go : (b : Bool) → eqb u x ≡ b → packets_in (h ++ more) x ≡ packets_in h x ++ packets_in more x
          → packets_in (accepted u m l k ∷ (h ++ more)) x ≡ packets_in (accepted u m l k ∷ h) x ++ packets_in more x
      go true e r = rw (e, packets_in, r) (sym (append_assoc (packets_of m l k) (packets_in h x) (packets_in more x)))
      go false e r = rw (e, packets_in, r)

pub sends_on_lem : (h more : List Event) → sends_in (h ++ more) ≡ sends_in h ++ sends_in more
unfolding sends_in
sends_on_lem [] more = refl
sends_on_lem (opened u q answer ∷ h) more = sends_on_lem h more
sends_on_lem (accepted u m l k ∷ h) more = sends_on_lem h more
sends_on_lem (sent u ∷ h) more = rw (sends_on_lem h more)

pub sends_sent : (xs : List Send) → sends_in (map sent xs) ≡ xs
unfolding sends_in
sends_sent [] = refl
sends_sent (u ∷ xs) = rw (sends_sent xs)

-- No message of channel x is accepted in it.
abbrev pub Without : (x : ℕ) → List Event → Type 0
Without x [] = Unit {0}
Without x (accepted u message logical packets ∷ h) = (u ≡ x → ⊥) × Without x h
Without x (opened u q answer ∷ h) = Without x h
Without x (sent u ∷ h) = Without x h

pub sends_without : (x : ℕ) (xs : List Send) → Without x (map sent xs)
sends_without x [] = tt
sends_without x (u ∷ xs) = sends_without x xs

module _ (x : ℕ) where
  messages_none : (base : ℕ) (more : List Event) → Without x more → messages_from base more x ≡ []
  unfolding messages_from
  messages_none base [] n = refl
  messages_none base (accepted u m l k ∷ more) n = rw (ne_eqb u x n.0, messages_from) (messages_none base more n.1)
  messages_none base (opened u q answer ∷ more) n = messages_none base more n
  messages_none base (sent u ∷ more) n = messages_none base more n

  packets_none : (more : List Event) → Without x more → packets_in more x ≡ []
  unfolding packets_in
  packets_none [] n = refl
  packets_none (accepted u m l k ∷ more) n = rw (ne_eqb u x n.0, packets_in) (packets_none more n.1)
  packets_none (opened u q answer ∷ more) n = packets_none more n
  packets_none (sent u ∷ more) n = packets_none more n

  -- then nothing changes for it
  module _ (h more : List Event) (n : Without x more) where
    pub messages_same : messages_in (h ++ more) x ≡ messages_in h x
    messages_same = messages_on x more 0 h ∙ (rw (messages_none _ more n) (append-nil (messages_in h x)))

    pub packets_same : packets_in (h ++ more) x ≡ packets_in h x
    packets_same = packets_on x more h ∙ (rw (packets_none more n) (append-nil (packets_in h x)))

  -- one message more
  module _ (h : List Event) (message logical packets : ℕ) where
    abbrev one : List Event
    one = accepted x message logical packets ∷ []

    pub messages_new : messages_in (h ++ one) x
        ≡ messages_in h x ++ (record { time = logical; end = ended 0 (messages_in h x) + packets } ∷ [])
    unfolding messages_from
    messages_new = rw (messages_on x one 0 h, messages_from, eq-eqb x x refl)

    pub packets_new : packets_in (h ++ one) x ≡ packets_in h x ++ packets_of message logical packets
    unfolding packets_in
    packets_new = rw (packets_on x one h, packets_in, eq-eqb x x refl, append-nil (packets_of message logical packets))

-- The logical times are those of the messages.
pub times_are : (base : ℕ) (h : List Event) (x : ℕ) → times_in h x ≡ map (λ m. m.time) (messages_from base h x)
unfolding times_in messages_from
times_are base [] x = refl
times_are base (opened u q answer ∷ h) x = times_are base h x
times_are base (sent u ∷ h) x = times_are base h x
times_are base (accepted u m l k ∷ h) x = go (eqb u x) refl (times_are (base + k) h x) (times_are base h x)
  where
    go : (b : Bool) → eqb u x ≡ b → times_in h x ≡ map (λ y. y.time) (messages_from (base + k) h x)
        → times_in h x ≡ map (λ y. y.time) (messages_from base h x)
        → times_in (accepted u m l k ∷ h) x ≡ map (λ y. y.time) (messages_from base (accepted u m l k ∷ h) x)
    go true e r s = rw (e, times_in, messages_from, r)
    go false e r s = rw (e, times_in, messages_from, s)

module _ (p now : ℕ) where
  pub own_first : (ms : List Message) → length ms ≡ 0 → own_time p now (map (λ m. m.time) ms) ≡ now
  unfolding own_time
  own_first [] e = refl
  own_first (m ∷ ms) e = absurd (omega arith)

  pub own_next : (ms : List Message) (n : ℕ) → length ms ≡ suc n
      → own_time p now (map (λ m. m.time) ms) ≡ max now (time_at ms n + p)
  unfolding own_time time_at
  own_next [] n e = absurd (omega arith)
  own_next (m ∷ []) zero e = refl
  own_next (m ∷ []) (suc n) e = absurd (omega arith)
  own_next (m ∷ (k ∷ ms)) zero e = absurd (omega arith)
  own_next (m ∷ (k ∷ ms)) (suc n) e = own_next (k ∷ ms) n (omega arith)
