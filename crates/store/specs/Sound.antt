-- Document 01: "A store is sound when: ..". Each part is a test, in the order of that sentence; `sound_of` is all of them. The
-- parts are defined on any numbers. The code looks at them in this order, and what a part reads is in range once those
-- before it hold.
use Rattle.std.specs.Prelude.{ℕ, zero, suc, ◌+◌, ◌-◌, ◌*◌, Bool, true, ◌&&◌, ◌||◌, eqb, leb, ltb, length}
use Rattle.kinds.specs.Ranges.{within, in_range_links, in_range_channels, in_range_rows, in_range_hops, is_slot, is_number}
use Rattle.kinds.specs.Checks.{link_passes, channel_passes}
use Rattle.store.specs.Layout.{Store, store_length, ring, links_of, channels_of, clock_of, from_of, to_of, horizon_of, buffer_of}
use Rattle.store.specs.Layout.{rows_of, row_channel_of, row_place_of, c_of, p_of, d_of, b_of, hops_of, messages_of, route_of, delay_of}
use Rattle.store.specs.Layout.{sent_of, time_of, end_of, is_channel}
use Rattle.folds.specs.Folds.{every, some, sum_to}
use Rattle.store.specs.Route.{route_passes}
use Rattle.store.specs.Amounts.{reserved_of, accepted_of, delivered_of, entered_of, held_of}

-- "its length suffices"
abbrev pub long_enough : Store → Bool
long_enough w = leb store_length (length w)

-- "its counts lie within the ranges", "the clock is at most the end slot"
abbrev pub counts_fit : Store → Bool
counts_fit w = in_range_links (links_of w) && (in_range_channels (channels_of w) && is_slot (clock_of w))

-- "its links pass 16"; rows are a count too
abbrev pub link_fits : Store → (l : ℕ) → Bool
link_fits w l = link_passes (from_of w l) (to_of w l) (horizon_of w l) (buffer_of w l) && in_range_rows (rows_of w l)

-- "its channels pass 1 to 5"
abbrev pub channel_fits : Store → (x : ℕ) → Bool
channel_fits w x =
    channel_passes (c_of w x) (p_of w x) (d_of w x) (b_of w x)
    && (in_range_hops (hops_of w x) && route_passes w (route_of w x) (hops_of w x))

-- "delays 1 to p"; and, of the counts: no more has been sent at a place than has come to it
abbrev pub place_fits : Store → (x j : ℕ) → Bool
place_fits w x j = within 1 (p_of w x) (delay_of w x j) && leb (sent_of w x j) (entered_of w x j)

-- all packets of message n, and of those before it, are delivered
abbrev pub delivered : Store → (x n : ℕ) → Bool
delivered w x n = leb (end_of w x n) (delivered_of w x)

-- "messages of one channel on one link have 1 to C packets, logical times at least p apart and rising": message n + 1 and
-- the one before it, if that is on a link too
abbrev pub follows : Store → (x n : ℕ) → Bool
follows w x n =
    (ltb (end_of w x n) (end_of w x (n + 1)) && leb (end_of w x (n + 1)) (end_of w x n + c_of w x))
    && (delivered w x n || leb (time_of w x n + p_of w x) (time_of w x (n + 1)))

-- message n and those before it, as far as they are not delivered: all that are not are among the `kept` last ones
unfoldable pub in_order : Store → (x n kept : ℕ) → Bool
in_order w x n zero = delivered w x n
in_order w x zero (suc kept) = delivered w x zero
in_order w x (suc n) (suc kept) = delivered w x (suc n) || (follows w x n && in_order w x n kept)

-- "no other slot .. exceeds 1,000,002,000,000": of a channel's slots the largest is the logical time of its last message on the
-- last link of its route; without a message there is none
abbrev pub last_time_of : Store → (x : ℕ) → ℕ
last_time_of w x = time_of w x (messages_of w x) + sum_to (delay_of w x) (hops_of w x - 1)

abbrev pub time_fits : Store → (x : ℕ) → Bool
time_fits w x = eqb (messages_of w x) 0 || is_number (last_time_of w x)

-- ".. or message number"; and packets accepted are at most C for each message
abbrev pub messages_fit : Store → (x : ℕ) → Bool
messages_fit w x =
    (is_number (messages_of w x) && time_fits w x)
    && (leb (accepted_of w x) (c_of w x * messages_of w x) && in_order w x (messages_of w x) (ring - 1))

abbrev pub channel_sound : Store → (x : ℕ) → Bool
channel_sound w x = channel_fits w x && (every (place_fits w x) (hops_of w x) && messages_fit w x)

-- "each link's rows are exactly the channels routed over it": a row is a channel at a place of its route, and this link is
-- there; and (`listed`, below) each place of each route is a row of its link
abbrev pub row_stands : Store → (l k : ℕ) → Bool
row_stands w l k =
    is_channel w (row_channel_of w l k)
    && (ltb (row_place_of w l k) (hops_of w (row_channel_of w l k)) && eqb (route_of w (row_channel_of w l k) (row_place_of w l k)) l)

-- the delay of row k
abbrev pub row_delay_of : Store → (l k : ℕ) → ℕ
row_delay_of w l k = delay_of w (row_channel_of w l k) (row_place_of w l k)

-- "sorted by delay there and then by channel number"
unfoldable pub row_follows : Store → (l k : ℕ) → Bool
row_follows w l zero = true
row_follows w l (suc k) =
    ltb (row_delay_of w l k) (row_delay_of w l (suc k))
    || (eqb (row_delay_of w l k) (row_delay_of w l (suc k)) && ltb (row_channel_of w l k) (row_channel_of w l (suc k)))

-- "reservations are those of the formula below"
abbrev pub row_reserved_of : Store → (l k : ℕ) → ℕ
row_reserved_of w l k = reserved_of w (row_channel_of w l k) (row_place_of w l k)

-- "and together no more packets than reserved"
abbrev pub row_holds : Store → (l k : ℕ) → Bool
row_holds w l k = leb (held_of w (row_channel_of w l k) (row_place_of w l k)) (row_reserved_of w l k)

abbrev pub row_sound : Store → (l k : ℕ) → Bool
row_sound w l k = row_stands w l k && (row_follows w l k && row_holds w l k)

-- "and fit the buffer"
abbrev pub rows_sound : Store → (l : ℕ) → Bool
rows_sound w l = every (row_sound w l) (rows_of w l) && leb (sum_to (row_reserved_of w l) (rows_of w l)) (buffer_of w l)

-- row k of link l is channel x at place j
abbrev pub row_is : Store → (x j l k : ℕ) → Bool
row_is w x j l k = eqb (row_channel_of w l k) x && eqb (row_place_of w l k) j

abbrev pub listed : Store → (x j : ℕ) → Bool
listed w x j = some (row_is w x j (route_of w x j)) (rows_of w (route_of w x j))

abbrev pub all_listed : Store → (x : ℕ) → Bool
all_listed w x = every (listed w x) (hops_of w x)

-- a store is sound
unfoldable pub sound_of : Store → Bool
sound_of w =
    long_enough w
    && (counts_fit w
    && (every (link_fits w) (links_of w)
    && (every (channel_sound w) (channels_of w)
    && (every (rows_sound w) (links_of w) && every (all_listed w) (channels_of w)))))
