-- Opens by the definitions: a buffer that is full, routes that are refused, the place of a row. Computed.
use Prim.Native.Nat.{ℕ}
use mathlib.Core.Path.{◌≡◌, refl}
use mathlib.Core.List.{List, [], ◌∷◌}
use lib.ListN.{replicate, take, drop}
use Rattle.response.specs.Need.{ceil, work, need, packets, start}
use Rattle.response.specs.Trials.{tried, response}
use Rattle.folds.specs.Folds.{every, first_not, sum_to}
use Rattle.store.specs.Layout.{Store, with_delay, with_rows, with_buffer, with_links, with_from, with_to}
use Rattle.store.specs.Route.{joins}
use Rattle.store.specs.Amounts.{reserved_of, reserved_along}
use Rattle.checks.specs.Checks.{first_failed}
use Rattle.kinds.specs.declared.Refusal.{Refusal}
use Rattle.kinds.specs.declared.Refusal.TheVariants.{NoLink, LinkTwice, LinksApart, BufferFull}
use Rattle.std.specs.declared.result.Result.{Result}
use Rattle.std.specs.declared.result.Result.TheVariants.{Ok, Err}
use Rattle.open_rules.specs.Request.{Request}
use Rattle.open_rules.specs.Search.{rows_to, smallest}
use Rattle.open_rules.specs.Join.{with_row, rows_before}
use Rattle.open_rules.specs.Refusal.{early_checks, late_checks}

-- a store in which link 0 has a buffer of 64, and one in which it has rows of delay 2 and 3
network : Store
network = with_buffer (replicate 2_000 0) 0 64

rowed : Store
rowed = with_delay (with_delay (with_row (with_row (with_rows (replicate 2_000 0) 0 2) 0 0 0 0) 0 1 1 0) 0 0 2) 1 0 3

-- an open over link 0 alone, and what checks 8 to 10 say of it
asked : (c p d b : ℕ) → Request
asked c p d b = record { c = c; p = p; d = d; b = b; route = 0 ∷ [] }

outcome : Store → Request → Result ℕ Refusal
outcome w q = first_failed Err (take 3 (late_checks w q)) (Ok 0)

-- a channel that fills the buffer, and one that asks for a packet more: B × C
full : outcome network (asked 32 100 40 2) ≡ Ok 0
unfolding outcome asked first_failed every first_not sum_to reserved_along reserved_of network rows_to smallest response tried need
    start packets work ceil
full = refl

over : outcome network (asked 13 100 40 5) ≡ Err (BufferFull 0)
unfolding outcome asked first_failed every first_not sum_to reserved_along reserved_of network rows_to smallest response tried need
    start packets work ceil
over = refl

-- two links in a row
pair : Store
pair = with_to (with_from (with_to (with_from (with_links (replicate 2_000 0) 2) 0 0) 0 1) 1 1) 1 2

-- checks 3 to 5 of a route over these two links: an unknown link is seen before a repeat, a repeat has the place of the second,
-- and is seen before links that do not join
routed : List ℕ → Result ℕ Refusal
routed route =
    first_failed Err (take 3 (drop 4 (early_checks pair (record { c = 1; p = 1; d = 1; b = 1; route = route }))))
    (Ok 0)

unknown_first : routed (0 ∷ (0 ∷ (2 ∷ []))) ≡ Err (NoLink 2)
unfolding routed first_failed every first_not joins pair
unknown_first = refl

second_of_two : routed (0 ∷ (1 ∷ (0 ∷ []))) ≡ Err (LinkTwice 2)
unfolding routed first_failed every first_not joins pair
second_of_two = refl

apart : routed (1 ∷ (0 ∷ [])) ≡ Err (LinksApart 1)
unfolding routed first_failed every first_not joins pair
apart = refl

joined : routed (0 ∷ (1 ∷ [])) ≡ Ok 0
unfolding routed first_failed every first_not joins pair
joined = refl

-- "by delay, then channel number": above a later delay, below the same and earlier ones
behind_equal : rows_before rowed 0 2 ≡ 1
unfolding first_not every rowed
behind_equal = refl
