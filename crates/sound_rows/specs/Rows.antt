-- A row's tests on the numbers that the code has read of it: `row_stands` and `row_follows` of the store are these.
use Rattle.std.specs.Prelude.{ℕ, Bool, ◌&&◌, ◌||◌, eqb, ltb}
use Rattle.store.specs.Layout.{Store, hops_of, route_of, is_channel}

-- channel x is routed over link l, at place j of its route
abbrev pub stands : Store → (l x j : ℕ) → Bool
stands w l x j = is_channel w x && (ltb j (hops_of w x) && eqb (route_of w x j) l)

-- "sorted by delay there and then by channel number": the row before has d' and x'
abbrev pub follows : (d' x' d x : ℕ) → Bool
follows d' x' d x = ltb d' d || (eqb d' d && ltb x' x)
