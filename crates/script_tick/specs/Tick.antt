-- What a `tick` line writes, and the store after it: document 01, "The program's listing".
use Rattle.std.specs.Prelude.{ℕ, zero, suc, ◌≤◌, ◌<◌, ◌≡◌, Option, None, Some, Result, Ok, Err, List, [], ◌++◌, take}
use Rattle.text_decimal.specs.Decimal.{Text}
use Rattle.text_decimal.specs.Put.{part_of}
use Rattle.store.specs.Layout.{Store, clock_of}
use Rattle.kinds.specs.declared.Refusal.{Refusal}
use Rattle.kinds.specs.Refusals.{number_of, place_of}
use Rattle.slot_rules.specs.Slot.{slot_sends, moved, slot_turn}
use Rattle.script_listing.specs.Listing.{send_lines, refused_line, slot_line}
use Rattle.script_listing.specs.Buffer.{buffer_length}

-- the output that is lent to a slot: room for a send of each of 16 links
abbrev pub send_room : ℕ
send_room = 80

-- "A slot refused within a `tick` prints `refused` once and ends that `tick`, with its `slot` line."
abbrev pub turn_out : Result (Unit {0}) Refusal → Store → (rest : Text) → Text
turn_out (Ok ran) w rest = send_lines (slot_sends w) ++ rest
turn_out (Err refusal) w rest = refused_line (number_of refusal) (place_of refusal) ++ slot_line (clock_of w)

-- "`slot` the clock after a `tick` line, printed once for each"
unfoldable pub tick_out : Store → (slots : ℕ) → Text
tick_out w zero = slot_line (clock_of w)
tick_out w (suc n) = turn_out (slot_turn w send_room) w (tick_out (moved w) n)

abbrev pub turn_store : Result (Unit {0}) Refusal → Store → (rest : Store) → Store
turn_store (Ok ran) w rest = rest
turn_store (Err refusal) w rest = w

unfoldable pub tick_store : Store → (slots : ℕ) → Store
tick_store w zero = w
tick_store w (suc n) = turn_store (slot_turn w send_room) w (tick_store (moved w) n)

-- What is still to come where so many slots are left, and nothing where the tick is over.
abbrev pub rest_out : (left : Option ℕ) → Store → Text
rest_out None w = []
rest_out (Some left) w = tick_out w left

abbrev pub rest_store : (left : Option ℕ) → Store → Store
rest_store None w = w
rest_store (Some left) w = tick_store w left

-- A step of the tick over `w`, of `left` slots: what it has written, from `at` up to `end`, and then the tick over `later`, of
-- `rest` slots, is that tick.
pub record Goes (w : Store) (left : ℕ) (old : List ℕ) (at : ℕ) (later : Store) (rest : ℕ) (out : List ℕ) (end : ℕ) : Type 0 where
  pub listed : tick_out w left ≡ part_of out at end ++ tick_out later rest
  pub stored : tick_store w left ≡ tick_store later rest
  pub front : take at out ≡ take at old
  pub within : (at ≤ end) × (end ≤ buffer_length)
  pub fewer : rest < left
