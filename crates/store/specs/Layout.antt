-- The lent store, number by number. docs/STORE.md is this page as a table. Nothing else names a place: the code and the
-- definitions above read a field by its name and write it by its `with` name.
use Rattle.std.specs.Prelude.{ℕ, zero, suc, ◌+◌, ◌-◌, ◌*◌, ◌%◌, ◌≤◌, ◌<◌, Bool, List, ltb, length, get_or, set}

abbrev pub Store : Type 0
Store = List ℕ

-- "one fixed length, the same for every network and at most 1,048,576 bytes": 65,536 numbers, 524,288 bytes
abbrev pub store_length : ℕ
store_length = 65_536

-- "its length suffices"
abbrev pub Long : Store → Type 0
Long w = store_length ≤ length w

-- the number at a place, 0 past the end; and the store with another number there
abbrev pub number_at : Store → ℕ → ℕ
number_at w at = get_or w at 0

abbrev pub with_number : Store → (at n : ℕ) → Store
with_number w at n = set w at n

-- The store is records of 96 numbers: the head, 16 links, 64 channels. What follows them is spare.
abbrev pub link_at : ℕ → ℕ
link_at l = 96 + 96 * l

abbrev pub channel_at : ℕ → ℕ
channel_at x = 1_632 + 96 * x

abbrev pub record_length : ℕ
record_length = 96

-- The head: how many links and channels there are, and the clock. Place 3 is spare (a rule of the network).
abbrev pub links_at : ℕ
links_at = 0

abbrev pub channels_at : ℕ
channels_at = 1

abbrev pub clock_at : ℕ
clock_at = 2

-- A link: its numbers, how many rows it has, and its rows, 32 at most, each a channel and the place of this link on the
-- channel's route. Places 5 to 15 and 80 to 95 are spare (its own slot, its longest packet, counts of a preview queue).
abbrev pub from_at : ℕ → ℕ
from_at l = link_at l

abbrev pub to_at : ℕ → ℕ
to_at l = link_at l + 1

abbrev pub horizon_at : ℕ → ℕ
horizon_at l = link_at l + 2

abbrev pub buffer_at : ℕ → ℕ
buffer_at l = link_at l + 3

abbrev pub rows_at : ℕ → ℕ
rows_at l = link_at l + 4

abbrev pub row_channel_at : (l k : ℕ) → ℕ
row_channel_at l k = link_at l + 16 + 2 * k

abbrev pub row_place_at : (l k : ℕ) → ℕ
row_place_at l k = link_at l + 17 + 2 * k

-- a link's rows, their number first, stand from `rows_at` up to here
abbrev pub rows_end : ℕ → ℕ
rows_end l = link_at l + 80

-- A channel: its numbers, its route and the delay on each link of it. Places 6, 7 and 80 to 95 are spare (a mark).
abbrev pub c_at : ℕ → ℕ
c_at x = channel_at x

abbrev pub p_at : ℕ → ℕ
p_at x = channel_at x + 1

abbrev pub d_at : ℕ → ℕ
d_at x = channel_at x + 2

abbrev pub b_at : ℕ → ℕ
b_at x = channel_at x + 3

abbrev pub hops_at : ℕ → ℕ
hops_at x = channel_at x + 4

abbrev pub route_start : ℕ → ℕ
route_start x = channel_at x + 8

abbrev pub route_at : (x j : ℕ) → ℕ
route_at x j = route_start x + j

abbrev pub delay_at : (x j : ℕ) → ℕ
delay_at x j = channel_at x + 16 + j

-- and how far it is: how many messages were accepted, how many packets have been sent on each link of the route, counted
-- over all messages, and of each of the last 24 messages its logical time on the first link and how many packets there
-- were with it. Message n, counted from 1 here, stands at n % 24.
abbrev pub messages_at : ℕ → ℕ
messages_at x = channel_at x + 5

abbrev pub sent_at : (x j : ℕ) → ℕ
sent_at x j = channel_at x + 24 + j

abbrev pub ring : ℕ
ring = 24

abbrev pub time_at : (x n : ℕ) → ℕ
time_at x n = channel_at x + 32 + n % ring

abbrev pub end_at : (x n : ℕ) → ℕ
end_at x n = channel_at x + 56 + n % ring

-- the place before another in the ring; the last one is before the first
unfoldable pub place_before : ℕ → ℕ
place_before zero = ring - 1
place_before (suc at) = at

-- what it has sent and its messages' times and ends stand from `sent_at x 0` up to here
abbrev pub course_end : ℕ → ℕ
course_end x = channel_at x + 80

-- A channel of a store, and a link of one: what a reader of its record is handed.
pub record ChannelAt : Type 0 where
  pub store : Store
  pub x : ℕ

pub record LinkAt : Type 0 where
  pub store : Store
  pub l : ℕ

-- Reading and writing, a name each.
abbrev pub links_of : Store → ℕ
links_of w = number_at w links_at

abbrev pub with_links : Store → ℕ → Store
with_links w v = with_number w links_at v

abbrev pub channels_of : Store → ℕ
channels_of w = number_at w channels_at

abbrev pub with_channels : Store → ℕ → Store
with_channels w v = with_number w channels_at v

-- channel x exists: channels are "numbered from 0 as opened". As a test, and as a fact.
abbrev pub is_channel : Store → (x : ℕ) → Bool
is_channel w x = ltb x (channels_of w)

abbrev pub IsChannel : Store → (x : ℕ) → Type 0
IsChannel w x = x < channels_of w

abbrev pub clock_of : Store → ℕ
clock_of w = number_at w clock_at

abbrev pub with_clock : Store → ℕ → Store
with_clock w v = with_number w clock_at v

abbrev pub from_of : Store → (l : ℕ) → ℕ
from_of w l = number_at w (from_at l)

abbrev pub with_from : Store → (l : ℕ) → ℕ → Store
with_from w l v = with_number w (from_at l) v

abbrev pub to_of : Store → (l : ℕ) → ℕ
to_of w l = number_at w (to_at l)

abbrev pub with_to : Store → (l : ℕ) → ℕ → Store
with_to w l v = with_number w (to_at l) v

abbrev pub horizon_of : Store → (l : ℕ) → ℕ
horizon_of w l = number_at w (horizon_at l)

abbrev pub with_horizon : Store → (l : ℕ) → ℕ → Store
with_horizon w l v = with_number w (horizon_at l) v

abbrev pub buffer_of : Store → (l : ℕ) → ℕ
buffer_of w l = number_at w (buffer_at l)

abbrev pub with_buffer : Store → (l : ℕ) → ℕ → Store
with_buffer w l v = with_number w (buffer_at l) v

abbrev pub rows_of : Store → (l : ℕ) → ℕ
rows_of w l = number_at w (rows_at l)

abbrev pub with_rows : Store → (l : ℕ) → ℕ → Store
with_rows w l v = with_number w (rows_at l) v

abbrev pub row_channel_of : Store → (l k : ℕ) → ℕ
row_channel_of w l k = number_at w (row_channel_at l k)

abbrev pub with_row_channel : Store → (l k : ℕ) → ℕ → Store
with_row_channel w l k v = with_number w (row_channel_at l k) v

abbrev pub row_place_of : Store → (l k : ℕ) → ℕ
row_place_of w l k = number_at w (row_place_at l k)

abbrev pub with_row_place : Store → (l k : ℕ) → ℕ → Store
with_row_place w l k v = with_number w (row_place_at l k) v

abbrev pub c_of : Store → (x : ℕ) → ℕ
c_of w x = number_at w (c_at x)

abbrev pub with_c : Store → (x : ℕ) → ℕ → Store
with_c w x v = with_number w (c_at x) v

abbrev pub p_of : Store → (x : ℕ) → ℕ
p_of w x = number_at w (p_at x)

abbrev pub with_p : Store → (x : ℕ) → ℕ → Store
with_p w x v = with_number w (p_at x) v

abbrev pub d_of : Store → (x : ℕ) → ℕ
d_of w x = number_at w (d_at x)

abbrev pub with_d : Store → (x : ℕ) → ℕ → Store
with_d w x v = with_number w (d_at x) v

abbrev pub b_of : Store → (x : ℕ) → ℕ
b_of w x = number_at w (b_at x)

abbrev pub with_b : Store → (x : ℕ) → ℕ → Store
with_b w x v = with_number w (b_at x) v

abbrev pub hops_of : Store → (x : ℕ) → ℕ
hops_of w x = number_at w (hops_at x)

abbrev pub with_hops : Store → (x : ℕ) → ℕ → Store
with_hops w x v = with_number w (hops_at x) v

abbrev pub messages_of : Store → (x : ℕ) → ℕ
messages_of w x = number_at w (messages_at x)

abbrev pub with_messages : Store → (x : ℕ) → ℕ → Store
with_messages w x v = with_number w (messages_at x) v

abbrev pub route_of : Store → (x j : ℕ) → ℕ
route_of w x j = number_at w (route_at x j)

abbrev pub with_route : Store → (x j : ℕ) → ℕ → Store
with_route w x j v = with_number w (route_at x j) v

abbrev pub delay_of : Store → (x j : ℕ) → ℕ
delay_of w x j = number_at w (delay_at x j)

abbrev pub with_delay : Store → (x j : ℕ) → ℕ → Store
with_delay w x j v = with_number w (delay_at x j) v

abbrev pub sent_of : Store → (x j : ℕ) → ℕ
sent_of w x j = number_at w (sent_at x j)

abbrev pub with_sent : Store → (x j : ℕ) → ℕ → Store
with_sent w x j v = with_number w (sent_at x j) v

abbrev pub time_of : Store → (x n : ℕ) → ℕ
time_of w x n = number_at w (time_at x n)

abbrev pub with_time : Store → (x n : ℕ) → ℕ → Store
with_time w x n v = with_number w (time_at x n) v

abbrev pub end_of : Store → (x n : ℕ) → ℕ
end_of w x n = number_at w (end_at x n)

abbrev pub with_end : Store → (x n : ℕ) → ℕ → Store
with_end w x n v = with_number w (end_at x n) v

-- the first n numbers of channel x's record are 0
unfoldable pub cleared : Store → (x n : ℕ) → Store
cleared w x zero = w
cleared w x (suc i) = with_number (cleared w x i) (channel_at x + i) 0
