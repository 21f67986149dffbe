-- Document 01, "Ranges", as tests on one number each, in its order. The code has each range once more, as associated
-- constants of the kind of number that it bounds; the contract of the test beside the constants ties the two.
use Rattle.std.specs.Prelude.{ℕ, Bool, ◌&&◌, leb}

-- from `least` to `most`, both among them
abbrev pub within : ℕ → ℕ → ℕ → Bool
within least most n = leb least n && leb n most

-- "links 1 to 16"
abbrev pub most_links : ℕ
most_links = 16

abbrev pub in_range_links : ℕ → Bool
in_range_links = within 1 most_links

-- "nodes 0 to 255"
abbrev pub most_node : ℕ
most_node = 255

abbrev pub in_range_node : ℕ → Bool
in_range_node n = leb n most_node

-- "horizon of a link 0 to 4,096 slots"
abbrev pub most_horizon : ℕ
most_horizon = 4_096

abbrev pub in_range_horizon : ℕ → Bool
in_range_horizon n = leb n most_horizon

-- "its buffer 1 to 256 packets"
abbrev pub most_buffer : ℕ
most_buffer = 256

abbrev pub in_range_buffer : ℕ → Bool
in_range_buffer = within 1 most_buffer

-- "channels 64 in all"
abbrev pub most_channels : ℕ
most_channels = 64

abbrev pub in_range_channels : ℕ → Bool
in_range_channels n = leb n most_channels

-- "rows on one link 32"
abbrev pub most_rows : ℕ
most_rows = 32

abbrev pub in_range_rows : ℕ → Bool
in_range_rows n = leb n most_rows

-- "route 1 to 8 links"
abbrev pub most_hops : ℕ
most_hops = 8

abbrev pub in_range_hops : ℕ → Bool
in_range_hops = within 1 most_hops

-- "C, most packets in a message, 1 to 200"
abbrev pub most_c : ℕ
most_c = 200

abbrev pub in_range_c : ℕ → Bool
in_range_c = within 1 most_c

-- "p, least spacing, 1 to 60,000"
abbrev pub most_p : ℕ
most_p = 60_000

abbrev pub in_range_p : ℕ → Bool
in_range_p = within 1 most_p

-- "D, asked end-to-end delay, 1 to 480,000"
abbrev pub most_d : ℕ
most_d = 480_000

abbrev pub in_range_d : ℕ → Bool
in_range_d = within 1 most_d

-- "B, burst, 1 to 16 messages"
abbrev pub most_b : ℕ
most_b = 16

abbrev pub in_range_b : ℕ → Bool
in_range_b = within 1 most_b

-- "slots 0 to 1,000,000,000,000 (the end slot)"
abbrev pub end_slot : ℕ
end_slot = 1_000_000_000_000

abbrev pub is_slot : ℕ → Bool
is_slot n = leb n end_slot

-- "no other slot or message number exceeds 1,000,002,000,000"
abbrev pub most_number : ℕ
most_number = 1_000_002_000_000

abbrev pub is_number : ℕ → Bool
is_number n = leb n most_number
