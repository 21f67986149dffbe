-- The loops that write: the store at the start of each, and after one turn more.
use Prim.Native.Nat.{ℕ, ◌+◌}
use mathlib.Core.Path.{◌≡◌, refl}
use native.Mathlib.Numerals.{add-one}
use Rattle.store.specs.Layout.{Store, route_of, delay_of, with_route, with_delay}
use Rattle.open_rules.specs.Join.{places_written, row_joined, rows_joined}

module _ (w : Store) (x : ℕ) (route delays : ℕ → ℕ) where
  pub places_none : places_written w x route delays 0 ≡ w
  unfolding places_written
  places_none = refl

  pub places_more : (j : ℕ) → places_written w x route delays (j + 1)
      ≡ with_delay (with_route (places_written w x route delays j) x j (route j)) x j (delays j)
  unfolding places_written
  places_more j = rw (add-one j, places_written)

module _ (w : Store) (x : ℕ) where
  pub rows_none : rows_joined w x 0 ≡ w
  unfolding rows_joined
  rows_none = refl

  pub rows_more : (j : ℕ) → rows_joined w x (j + 1)
      ≡ row_joined (rows_joined w x j) (route_of (rows_joined w x j) x j) (delay_of (rows_joined w x j) x j) x j
  unfolding rows_joined
  rows_more j = rw (add-one j, rows_joined)
