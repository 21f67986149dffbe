-- Document 01, "Opening": what an accepted open writes.
use Rattle.std.specs.Prelude.{ℕ, zero, suc, ◌+◌, ◌-◌, Bool, leb}
use Rattle.folds.specs.Folds.{first_not}
use Rattle.store.specs.Layout.{Store, record_length, cleared, rows_of, row_channel_of, row_place_of, route_of, delay_of, with_rows}
use Rattle.store.specs.Layout.{with_row_channel, with_row_place, with_c, with_p, with_d, with_b, with_hops, with_route, with_delay}
use Rattle.store.specs.Sound.{row_delay_of}
use Rattle.open_rules.specs.Request.{Request, hops, link}

-- the numbers that were asked for
abbrev pub numbers_written : Store → (x : ℕ) → Request → Store
numbers_written w x q = with_hops (with_b (with_d (with_p (with_c w x q.c) x q.p) x q.d) x q.b) x (hops q)

-- the first n links of the route, and the delay on each
unfoldable pub places_written : Store → (x : ℕ) → (route delays : ℕ → ℕ) → (n : ℕ) → Store
places_written w x route delays zero = w
places_written w x route delays (suc j) = with_delay (with_route (places_written w x route delays j) x j (route j)) x j (delays j)

-- the whole record; what is not named is 0: no message, no packet sent
unfoldable pub channel_written : Store → (x : ℕ) → Request → (delays : ℕ → ℕ) → Store
channel_written w x q delays =
    places_written (numbers_written (cleared w x record_length) x q) x (link q) delays (hops q)

-- "The new row joins each link's order by d": it stands after all rows of no greater delay. Rows stand by delay, "then channel
-- number", and the new channel's number is the largest.
abbrev pub no_later : Store → (l d k : ℕ) → Bool
no_later w l d k = leb (row_delay_of w l k) d

abbrev pub rows_before : Store → (l d : ℕ) → ℕ
rows_before w l d = first_not (no_later w l d) (rows_of w l)

-- row k of link l becomes channel x at place j
abbrev pub with_row : Store → (l k x j : ℕ) → Store
with_row w l k x j = with_row_place (with_row_channel w l k x) l k j

-- the new row at `at`, and the i rows that stood from there on, each one further down
unfoldable pub row_put : Store → (l at x j i : ℕ) → Store
row_put w l at x j zero = with_row w l at x j
row_put w l at x j (suc i) =
    with_row (row_put w l at x j i) l (at + suc i) (row_channel_of w l (at + i)) (row_place_of w l (at + i))

unfoldable pub row_joined : Store → (l d x j : ℕ) → Store
row_joined w l d x j =
    with_rows (row_put w l (rows_before w l d) x j (rows_of w l - rows_before w l d)) l (rows_of w l + 1)

-- the rows of channel x on the first n links of its route, which its record has
unfoldable pub rows_joined : Store → (x n : ℕ) → Store
rows_joined w x zero = w
rows_joined w x (suc j) = row_joined (rows_joined w x j) (route_of (rows_joined w x j) x j) (delay_of (rows_joined w x j) x j) x j
