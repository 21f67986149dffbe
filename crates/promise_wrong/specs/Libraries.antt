-- Libraries that are wrong in one call, an open or a slot. Document 01 names three: "one that accepts all", "a slot that sends
-- nothing", "one that sends in slot 0 and then only moves the clock"; two more stand beside them.
use Rattle.std.specs.declared.result.Result.{Result}
use Rattle.std.specs.declared.result.Result.TheVariants.{Ok, Err}
use Rattle.kinds.specs.declared.Refusal.{Refusal}
use Rattle.std.specs.Prelude.{ℕ, zero, suc, ◌+◌, true, false, List, [], ◌∷◌, ◌++◌, eqb, replicate}
use Rattle.store.specs.Layout.{Store, links_of, channels_of, clock_of, rows_of, row_channel_of, row_place_of, sent_of, with_channels}
use Rattle.store.specs.Layout.{with_clock}
use Rattle.store.specs.Layout.{with_sent}
use Rattle.store.specs.Amounts.{reserved_along}
use Rattle.open_rules.specs.Request.{Request, hops, link}
use Rattle.open_rules.specs.Shares.{eight}
use Rattle.open_rules.specs.Join.{channel_written, rows_joined}
use Rattle.open_rules.specs.Open.{open_outcome, open_store}
use Rattle.slot_rules.specs.Pick.{row_held}
use Rattle.slot_rules.specs.Slot.{Send, send_at, slot_turn, slot_sent, slot_store, moved_to}
use Rattle.promise.specs.Calls.{OpenAnswer, Library}
use Rattle.promise.specs.Ours.{ours}

-- ours with another open and another slot; with another slot alone
abbrev with_calls : (answer : Store → Request → OpenAnswer) → (opened : Store → Request → Store)
    → (sends : Store → (size : ℕ) → List Send) → (moved : Store → (size : ℕ) → Store) → Library
with_calls answer opened sends moved = record {
  set_up_answer = ours.set_up_answer;
  set_up_store = ours.set_up_store;
  open_answer = answer;
  open_store = opened;
  offer_answer = ours.offer_answer;
  offer_store = ours.offer_store;
  slot_number = ours.slot_number;
  slot_sent = sends;
  slot_store = moved;
  idle_answer = ours.idle_answer;
  skip_answer = ours.skip_answer;
  skip_store = ours.skip_store;
}

abbrev with_slot : (sends : Store → (size : ℕ) → List Send) → (moved : Store → (size : ℕ) → Store) → Library
with_slot = with_calls ours.open_answer ours.open_store

-- a slot that runs only moves the clock
abbrev only_clock : Result (Unit {0}) Refusal → Store → Store
only_clock (Ok ran) w = with_clock w (clock_of w + 1)
only_clock (Err refusal) w = w

-- "a slot that sends nothing"
abbrev pub sends_nothing : Library
sends_nothing = with_slot (λ w size. []) (λ w size. only_clock (slot_turn w size) w)

-- "one that sends in slot 0 and then only moves the clock"
abbrev pub sends_in_slot0 : Library
sends_in_slot0 = with_slot
    (λ w size. elim (eqb (clock_of w) 0) [ true ↦ slot_sent w size | false ↦ [] ])
    (λ w size. elim (eqb (clock_of w) 0) [ true ↦ slot_store w size | false ↦ only_clock (slot_turn w size) w ])

-- a clock that stands: packets move on, and it stays the same slot
abbrev only_packets : Result (Unit {0}) Refusal → Store → Store
only_packets (Ok ran) w = moved_to w (links_of w)
only_packets (Err refusal) w = w

abbrev pub clock_stands : Library
clock_stands = with_slot slot_sent (λ w size. only_packets (slot_turn w size) w)

-- a slot that sends all at once: every link the next packet of each of its rows
unfoldable pub rows_sent : Store → (l n : ℕ) → List Send
rows_sent w l zero = []
rows_sent w l (suc k) =
    rows_sent w l k
    ++ elim (row_held w l k) [ true ↦ send_at w l (row_channel_of w l k) (row_place_of w l k) ∷ [] | false ↦ [] ]

unfoldable pub all_sent : Store → (n : ℕ) → List Send
all_sent w zero = []
all_sent w (suc l) = all_sent w l ++ rows_sent w l (rows_of w l)

unfoldable pub rows_moved : Store → (l n : ℕ) → (later : Store) → Store
rows_moved w l zero later = later
rows_moved w l (suc k) later =
    elim (row_held w l k) [
      | true ↦ with_sent (rows_moved w l k later) (row_channel_of w l k) (row_place_of w l k)
          (sent_of w (row_channel_of w l k) (row_place_of w l k) + 1)
      | false ↦ rows_moved w l k later
    ]

unfoldable pub all_moved : Store → (n : ℕ) → Store
all_moved w zero = w
all_moved w (suc l) = rows_moved w l (rows_of w l) (all_moved w l)

abbrev sends_on : Result (Unit {0}) Refusal → Store → List Send
sends_on (Ok ran) w = all_sent w (links_of w)
sends_on (Err refusal) w = []

abbrev store_on : Result (Unit {0}) Refusal → Store → Store
store_on (Ok ran) w = with_clock (all_moved w (links_of w)) (clock_of w + 1)
store_on (Err refusal) w = w

abbrev pub sends_all_at_once : Library
sends_all_at_once = with_slot (λ w size. sends_on (slot_turn w size) w) (λ w size. store_on (slot_turn w size) w)

-- "one that accepts all": where ours refuses, the channel gets p as its delay on every link
abbrev any_answer : Result ℕ Refusal → Store → Request → OpenAnswer
any_answer (Ok channel) w q = ours.open_answer w q
any_answer (Err refusal) w q = record {
  outcome = Ok (channels_of w);
  responses = replicate 8 0;
  delays = eight (λ j. q.p) (hops q);
  reserved = eight (reserved_along w q.c q.p q.b (link q) (λ j. q.p)) (hops q);
}

abbrev any_store : Result ℕ Refusal → Store → Request → Store
any_store (Ok channel) w q = open_store w q
any_store (Err refusal) w q =
    with_channels (rows_joined (channel_written w (channels_of w) q (λ j. q.p)) (channels_of w) (hops q)) (channels_of w + 1)

abbrev pub accepts_all : Library
accepts_all = with_calls (λ w q. any_answer (open_outcome w q) w q) (λ w q. any_store (open_outcome w q) w q) slot_sent slot_store
