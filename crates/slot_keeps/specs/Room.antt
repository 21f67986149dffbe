-- The second 17 of a slot, "the call would leave one that is not" sound, as the code looks at it: a packet that is picked has
-- room at the next place of its route. proofs/ shows that this is the same.
use Rattle.std.specs.Prelude.{ℕ, zero, suc, ◌+◌, Bool, true, false, ◌||◌, eqb, leb, ltb}
use Rattle.store.specs.Layout.{Store, hops_of, route_of, row_channel_of, row_place_of}
use Rattle.store.specs.Amounts.{reserved_of, held_of}
use Rattle.slot_rules.specs.Pick.{pick_of}

-- the row picked is one of channel x
abbrev pub is_of : Store → (l x position : ℕ) → Bool
is_of w l x zero = false
is_of w l x (suc k) = eqb (row_channel_of w l k) x

-- at place j of its route a packet of channel x leaves in this slot
abbrev pub leaves : Store → (x j : ℕ) → Bool
leaves w x j = is_of w (route_of w x j) x (pick_of w (route_of w x j))

-- and one more may come: fewer are held there than are reserved, or one leaves
abbrev pub takes_packet : Store → (x j : ℕ) → Bool
takes_packet w x j = ltb (held_of w x j) (reserved_of w x j) || leaves w x j

-- the packet of the row picked is on its last link, or has room on the next one
abbrev pub room_from : Store → (l position : ℕ) → Bool
room_from w l zero = true
room_from w l (suc k) =
    leb (hops_of w (row_channel_of w l k)) (row_place_of w l k + 1) || takes_packet w (row_channel_of w l k) (row_place_of w l k + 1)

abbrev pub room_after : Store → (l : ℕ) → Bool
room_after w l = room_from w l (pick_of w l)
