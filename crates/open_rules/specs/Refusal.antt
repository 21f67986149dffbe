-- Document 01, "Numbers given back on a refusal": the checks of an open. "Checks run in this order: open 17, 14, 1 to 10"; 17
-- once more "after all other checks".
use Rattle.std.specs.Prelude.{ℕ, ◌+◌, Bool, List, [], ◌∷◌, ◌++◌, leb, ltb}
use Rattle.kinds.specs.Ranges.{in_range_hops, most_channels, most_rows, end_slot}
use Rattle.kinds.specs.Checks.{channel_passes}
use Rattle.kinds.specs.declared.Refusal.{Refusal}
use Rattle.kinds.specs.declared.Refusal.TheVariants.{Range, RouteLength, NoLink, LinkTwice, LinksApart, ChannelsFull, RowsFull}
use Rattle.kinds.specs.declared.Refusal.TheVariants.{NoResponse, OverD, BufferFull, EndSlot, NotSound}
use Rattle.std.specs.declared.result.Result.{Result}
use Rattle.std.specs.declared.result.Result.TheVariants.{Err}
use Rattle.folds.specs.Folds.{sum_to}
use Rattle.store.specs.Layout.{Store, channels_of, clock_of, rows_of, with_channels}
use Rattle.store.specs.Route.{exists, is_new, joins}
use Rattle.store.specs.Sound.{sound_of}
use Rattle.checks.specs.Checks.{Check, check, check_all, first_failed}
use Rattle.open_rules.specs.Request.{Request, hops, link}
use Rattle.open_rules.specs.Search.{responds, responses}
use Rattle.open_rules.specs.Shares.{delays, fits_buffer}
use Rattle.open_rules.specs.Join.{channel_written, rows_joined}
use Rattle.store.specs.Amounts.{reserved_along}

-- The numbers per link that an open works out.
abbrev pub responses_of : Store → Request → (j : ℕ) → ℕ
responses_of w q = responses w q.c q.p (link q)

abbrev pub delays_of : Store → Request → (j : ℕ) → ℕ
delays_of w q = delays q.p q.d (hops q) (responses_of w q)

abbrev pub reserved_for : Store → Request → (j : ℕ) → ℕ
reserved_for w q = reserved_along w q.c q.p q.b (link q) (delays_of w q)

-- "All links are changed together": the store with the new channel, its row on each link of its route, and one channel more
unfoldable pub opened : Store → Request → Store
opened w q =
    with_channels (rows_joined (channel_written w (channels_of w) q (delays_of w q)) (channels_of w) (hops q)) (channels_of w + 1)

-- 7: "a link of the route has 32 rows"; here is room for one more
abbrev pub takes_row : Store → (route : ℕ → ℕ) → (j : ℕ) → Bool
takes_row w route j = ltb (rows_of w (route j)) most_rows

-- 17, 14 and 1 to 7: what can be said before the search
abbrev pub early_checks : Store → Request → List Check
early_checks w q =
    check NotSound (sound_of w)
    ∷ (check EndSlot (ltb (clock_of w) end_slot)
    ∷ (check Range (channel_passes q.c q.p q.d q.b)
    ∷ (check RouteLength (in_range_hops (hops q))
    ∷ (check_all NoLink (exists w (link q)) (hops q)
    ∷ (check_all LinkTwice (is_new (link q)) (hops q)
    ∷ (check_all LinksApart (joins w (link q)) (hops q)
    ∷ (check ChannelsFull (ltb (channels_of w) most_channels)
    ∷ (check_all RowsFull (takes_row w (link q)) (hops q)
    ∷ []))))))))

-- 8 to 10, and 17 if "the call would leave one that is not" sound
abbrev pub late_checks : Store → Request → List Check
late_checks w q =
    check_all NoResponse (responds w q.c q.p (link q)) (hops q)
    ∷ (check OverD (leb (sum_to (responses_of w q) (hops q)) q.d)
    ∷ (check_all BufferFull (fits_buffer w (link q) (reserved_for w q)) (hops q)
    ∷ (check NotSound (sound_of (opened w q))
    ∷ [])))

abbrev pub open_refusal : Store → Request → (passed : Result ℕ Refusal) → Result ℕ Refusal
open_refusal w q passed = first_failed Err (early_checks w q ++ late_checks w q) passed
