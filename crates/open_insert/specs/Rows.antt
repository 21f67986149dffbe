-- What putting a row into a link's order asks of the store: that what is read and written lies within the records. The store is
-- not sound while a channel is being written.
use Rattle.std.specs.Prelude.{ℕ, ◌<◌}
use Rattle.kinds.specs.Ranges.{most_links, most_channels, most_hops, most_rows}
use Rattle.store.specs.Layout.{Store, Long, rows_of, row_channel_of, row_place_of}

-- link l has room for one more row, and its rows are channels at places
pub record Rows (w : Store) (l : ℕ) : Type 0 where
  pub long : Long w
  pub link : l < most_links
  pub room : rows_of w l < most_rows
  pub channel : (k : ℕ) → k < rows_of w l → row_channel_of w l k < most_channels
  pub place : (k : ℕ) → k < rows_of w l → row_place_of w l k < most_hops
