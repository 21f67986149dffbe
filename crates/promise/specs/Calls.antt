-- The calls of any library on our store, and what happens in them.
use Rattle.std.specs.declared.result.Result.{Result}
use Rattle.std.specs.declared.result.Result.TheVariants.{Ok, Err}
use Rattle.kinds.specs.Refusals.{number_of, place_of}
use Rattle.kinds.specs.declared.Refusal.{Refusal}
use Rattle.offer_rules.specs.declared.Accepted.{Accepted}
use Rattle.std.specs.Prelude.{ℕ, ◌≡◌, List, [], ◌∷◌, ◌++◌, map}
use Rattle.store.specs.Layout.{Store}
use Rattle.open_rules.specs.declared.Opening.{Opening}
use Rattle.open_rules.specs.Request.{Request}
use Rattle.slot_rules.specs.Slot.{Send}

-- "A refusal gives a number and a place": any library's, so any two numbers
pub record Refused : Type 0 where
  pub number : ℕ
  pub place : ℕ

abbrev pub refused : {A : Type 0} → (number place : ℕ) → Result A Refused
refused number place = Err (record { number = number; place = place })

-- an answer of ours, with the number and the place of its refusal
abbrev pub numbered : {A : Type 0} → Result A Refusal → Result A Refused
numbered (Ok x) = Ok x
numbered (Err refusal) = refused (number_of refusal) (place_of refusal)

-- what an open answers: the channel's number or the refusal, and the numbers of each link of the route
pub record OpenAnswer : Type 0 where
  pub outcome : Result ℕ Refused
  pub responses : List ℕ
  pub delays : List ℕ
  pub reserved : List ℕ

abbrev pub open_numbered : Opening → OpenAnswer
open_numbered a = record { outcome = numbered a.outcome; responses = a.responses; delays = a.delays; reserved = a.reserved }

-- a library: what each call on a store answers, and the store that it leaves
pub record Library : Type 0 where
  pub set_up_answer : Store → (links : List ℕ) → Result (Unit {0}) Refused
  pub set_up_store : Store → (links : List ℕ) → Store
  pub open_answer : Store → Request → OpenAnswer
  pub open_store : Store → Request → Store
  pub offer_answer : Store → (channel packets : ℕ) → Result Accepted Refused
  pub offer_store : Store → (channel packets : ℕ) → Store
  pub slot_number : Store → (size : ℕ) → ℕ
  pub slot_sent : Store → (size : ℕ) → List Send
  pub slot_store : Store → (size : ℕ) → Store
  pub idle_answer : Store → Result ℕ Refused
  pub skip_answer : Store → (slots : ℕ) → Result ℕ Refused
  pub skip_store : Store → (slots : ℕ) → Store

-- the calls after set-up that write a store, with any arguments; `size` is the length of the output that is lent to a slot
pub data Call : Type 0 where
  opens : Request → Call
  offers : (channel packets : ℕ) → Call
  runs : (size : ℕ) → Call
  skips : (slots : ℕ) → Call

-- a channel was opened, and this was the answer; a message was accepted; a packet was sent
pub data Event : Type 0 where
  opened : (channel : ℕ) → Request → OpenAnswer → Event
  accepted : (channel message logical packets : ℕ) → Event
  sent : Send → Event

-- what happens in an open or an offer: nothing if it is refused, but a refused call is a call too
unfoldable pub open_events : Result ℕ Refused → Request → OpenAnswer → List Event
open_events (Ok channel) q answer = opened channel q answer ∷ []
open_events (Err refusal) q answer = []

unfoldable pub offer_events : Result Accepted Refused → (channel packets : ℕ) → List Event
offer_events (Ok a) x packets = accepted x a.message a.time packets ∷ []
offer_events (Err refusal) x packets = []

module _ (lib : Library) where
  -- the store that a call leaves, and what happens in it
  unfoldable pub store_after : Call → Store → Store
  store_after (opens q) w = lib.open_store w q
  store_after (offers x packets) w = lib.offer_store w x packets
  store_after (runs size) w = lib.slot_store w size
  store_after (skips slots) w = lib.skip_store w slots

  unfoldable pub events_in : Call → Store → List Event
  events_in (opens q) w = open_events (lib.open_answer w q).outcome q (lib.open_answer w q)
  events_in (offers x packets) w = offer_events (lib.offer_answer w x packets) x packets
  events_in (runs size) w = map sent (lib.slot_sent w size)
  events_in (skips slots) w = []

  -- The stores that are reached from set-up, of any lent store with links that it takes, by any calls in any order, each with all
  -- that has happened on the way.
  pub data Reached (links : List ℕ) : Store → List Event → Type 0 where
    fresh : (w : Store) → lib.set_up_answer w links ≡ Ok tt → Reached links (lib.set_up_store w links) []
    next : (w : Store) (h : List Event) → Reached links w h → (call : Call)
        → Reached links (store_after call w) (h ++ events_in call w)
