-- What joining the links of a route asks of the store: that what is read and written lies within the records. The store is not
-- sound while a channel is being written.
use Rattle.std.specs.Prelude.{ℕ, ◌≤◌, ◌<◌, ◌≡◌}
use Rattle.kinds.specs.Ranges.{most_channels, most_hops}
use Rattle.store.specs.Layout.{Store, Long}
use Rattle.open_rules.specs.Request.{Request, hops, link}
use Rattle.open_insert.specs.Rows.{Rows}

-- each of the first n links of a route has room for one more row, and they differ: channel x can join them
pub record Ready (w : Store) (x : ℕ) (route : ℕ → ℕ) (n : ℕ) : Type 0 where
  pub channel : x < most_channels
  pub hops_most : n ≤ most_hops
  pub rows : (j : ℕ) → j < n → Rows w (route j)
  pub new : (j i : ℕ) → j < n → i < j → route i ≡ route j → ⊥

-- channel x, as it was asked for, can be written and then join
pub record Enterable (w : Store) (q : Request) (x : ℕ) : Type 0 where
  pub long : Long w
  pub ready : Ready w x (link q) (hops q)
