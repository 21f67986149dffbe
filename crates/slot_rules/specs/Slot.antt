-- Document 01, "A slot": "All links pick, then all picked packets move on, then the clock rises by one."
use Rattle.std.specs.Prelude.{ℕ, zero, suc, ◌+◌, ◌-◌, ◌*◌, List, [], ◌∷◌, ◌++◌, leb, ltb, length, drop}
use Rattle.std.specs.declared.result.Result.{Result}
use Rattle.std.specs.declared.result.Result.TheVariants.{Ok, Err}
use Rattle.kinds.specs.Ranges.{end_slot}
use Rattle.kinds.specs.Refusals.{number_of, place_of}
use Rattle.kinds.specs.declared.Refusal.{Refusal}
use Rattle.kinds.specs.declared.Refusal.TheVariants.{EndSlot, OutShort, NotSound}
use Rattle.store.specs.Layout.{Store, links_of, clock_of, row_channel_of, row_place_of, sent_of, with_sent, with_clock}
use Rattle.store.specs.Sound.{sound_of}
use Rattle.checks.specs.Checks.{Check, check, first_failed}
use Rattle.slot_rules.specs.Head.{message_of, packet_of}
use Rattle.slot_rules.specs.Pick.{pick_of}

-- "five numbers each: slot, link, channel, message, packet (the last two from 0)"
pub record Send : Type 0 where
  pub slot : ℕ
  pub link : ℕ
  pub channel : ℕ
  pub message : ℕ
  pub packet : ℕ

unfoldable pub numbers : List Send → List ℕ
numbers [] = []
numbers (s ∷ rest) = s.slot ∷ (s.link ∷ (s.channel ∷ (s.message ∷ (s.packet ∷ numbers rest))))

-- what link l sends: the next packet of channel x, at place j of its route
abbrev pub send_at : Store → (l x j : ℕ) → Send
send_at w l x j = record { slot = clock_of w; link = l; channel = x; message = message_of w x j - 1; packet = packet_of w x j }

-- of the row picked
abbrev pub send_from : Store → (l position : ℕ) → List Send
send_from w l zero = []
send_from w l (suc k) = send_at w l (row_channel_of w l k) (row_place_of w l k) ∷ []

-- the sends of the first n links, "in link order"; those of the slot
unfoldable pub sends_to : Store → (n : ℕ) → List Send
sends_to w zero = []
sends_to w (suc l) = sends_to w l ++ send_from w l (pick_of w l)

abbrev pub slot_sends : Store → List Send
slot_sends w = sends_to w (links_of w)

-- "All links pick, then all picked packets move on": the picks are those of w. A packet that has moved on from place j is one
-- more sent there, and so stands at the next place.
abbrev pub move_from : Store → (l position : ℕ) → (later : Store) → Store
move_from w l zero later = later
move_from w l (suc k) later =
    with_sent later (row_channel_of w l k) (row_place_of w l k) (sent_of w (row_channel_of w l k) (row_place_of w l k) + 1)

unfoldable pub moved_to : Store → (n : ℕ) → Store
moved_to w zero = w
moved_to w (suc l) = move_from w l (pick_of w l) (moved_to w l)

-- "then the clock rises by one"
unfoldable pub moved : Store → Store
moved w = with_clock (moved_to w (links_of w)) (clock_of w + 1)

-- "Checks run in this order: .. slot 17, 14, 15", the last where the "output has room for fewer sends than there are links"; 17
-- once more "after all other checks". `size` is the length of the output.
abbrev pub slot_checks : Store → (size : ℕ) → List Check
slot_checks w size =
    check NotSound (sound_of w)
    ∷ (check EndSlot (ltb (clock_of w) end_slot)
    ∷ (check OutShort (leb (5 * links_of w) size)
    ∷ (check NotSound (sound_of (moved w))
    ∷ [])))

-- whether it runs, or why not
unfoldable pub slot_turn : Store → (size : ℕ) → Result (Unit {0}) Refusal
slot_turn w size = first_failed Err (slot_checks w size) (Ok tt)

-- "Two more lent numbers take its number and place, or 0 and 0 if the slot ran."
abbrev pub number_on : Result (Unit {0}) Refusal → ℕ
number_on (Ok ran) = 0
number_on (Err refusal) = number_of refusal

abbrev pub place_on : Result (Unit {0}) Refusal → ℕ
place_on (Ok ran) = 0
place_on (Err refusal) = place_of refusal

-- "a refused slot gives back an empty part"; nothing stored changes
abbrev pub sends_on : Result (Unit {0}) Refusal → Store → List Send
sends_on (Ok ran) w = slot_sends w
sends_on (Err refusal) w = []

abbrev pub store_on : Result (Unit {0}) Refusal → Store → Store
store_on (Ok ran) w = moved w
store_on (Err refusal) w = w

-- The slot: its number and place, its sends, the later store, and the later output, of which "the rest .. is unchanged".
abbrev pub slot_number : Store → (size : ℕ) → ℕ
slot_number w size = number_on (slot_turn w size)

abbrev pub slot_place : Store → (size : ℕ) → ℕ
slot_place w size = place_on (slot_turn w size)

abbrev pub slot_sent : Store → (size : ℕ) → List Send
slot_sent w size = sends_on (slot_turn w size) w

abbrev pub slot_store : Store → (size : ℕ) → Store
slot_store w size = store_on (slot_turn w size) w

abbrev pub written : List Send → List ℕ → List ℕ
written sends out = numbers sends ++ drop (5 * length sends) out

abbrev pub slot_out : Store → List ℕ → List ℕ
slot_out w out = written (slot_sent w (length out)) out
