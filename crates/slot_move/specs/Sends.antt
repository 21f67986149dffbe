-- What the code does for one link: a send is five numbers, one after the other; and how many packets of a channel there can be.
use Rattle.std.specs.Prelude.{ℕ, ◌+◌, ◌*◌, List, set}
use Rattle.kinds.specs.Ranges.{most_c, most_number}
use Rattle.slot_rules.specs.Slot.{Send}

abbrev pub send_put : List ℕ → (at : ℕ) → Send → List ℕ
send_put out at x =
    set (set (set (set (set out at x.slot) (at + 1) x.link) (at + 2) x.channel) (at + 3) x.message)
    (at + 4) x.packet

-- C for each message
abbrev pub most_packets : ℕ
most_packets = most_c * most_number
