-- Over 32 rows the answer is the refusal.
use mathlib.Core.Path.{◌≡◌}
use Prim.Native.Nat.{ℕ, ◌<◌, ◌≤◌}
use mathlib.Core.List.{List}
use lib.ListN.{length, take}
use borrow.Author.Tests.{le-leb, lt-leb}
use Rattle.kinds.specs.Ranges.{most_rows}
use Rattle.response.specs.declared.Row.{Row}
use Rattle.response.specs.Alone.{alone, refused18}
use Rattle.response_table.specs.Rows.{alone_of_first}

pub alone_over : (rows : List Row) (own limit : ℕ) → most_rows < length rows → refused18 ≡ alone rows own limit
unfolding alone
alone_over rows own limit more = rw (lt-leb (length rows) most_rows more, alone)

pub first_over : (rows : List Row) (n own limit : ℕ) → most_rows < n → refused18 ≡ alone_of_first rows n own limit
unfolding alone_of_first
first_over rows n own limit more = rw (lt-leb n most_rows more, alone_of_first)

pub first_within : (rows : List Row) (n own limit : ℕ) → n ≤ most_rows
    → alone (take n rows) own limit ≡ alone_of_first rows n own limit
unfolding alone_of_first
first_within rows n own limit few = rw (le-leb n most_rows few, alone_of_first)
