-- The plan of a sound store whose tables pass the test is one as crate `schedule` asks for.
use Prim.Native.Nat.{ℕ, ◌<◌}
use mathlib.Core.List.Memᴰ
use mathlib.Core.List.{map}
use native.Mathlib.Decide.{dec_lt}
use native.Mathlib.Omega.{arith}
use Rattle.schedule.specs.Feasible.{Table}
use Rattle.schedule.specs.Lists.{◌∈◌}
use Rattle.schedule.specs.Network.{Key, row, Inside, Planned}
use Rattle.store.specs.Layout.{Store, links_of, rows_of, route_of}
use Rattle.store.proofs.Laws.Sound.{Sound}
use Rattle.open_rules.specs.Search.{table_of}
use Rattle.promise_view.specs.View.{key_of, keys_to, keys_of, plan_of}
use Rattle.promise_view.proofs.Places.{inside_is, is_inside}
use Rattle.promise_view.proofs.Keys.{keys_are, no_keys, key_row, row_key, rows_table}

-- the table of each link; a link that there is not has an empty one
tables : (w : Store) → ((l : ℕ) → l < links_of w → Table (table_of w l)) → (l : ℕ) → Table (map (row (plan_of w)) (keys_of w l))
tables w t l = go (dec_lt l (links_of w))
  where
    go : Dec (l < links_of w) → Table (map (row (plan_of w)) (keys_of w l))
    go (yes h) = rw (keys_are w l h, rows_table w l (rows_of w l)) (t l h)
    go (no h) = rw (no_keys w l (omega (arith, h))) (record { packets = tt; constrained = tt; feasible = tt })

module _ {w : Store} (s : Sound w) where
  routed : (k : Key) → Inside (plan_of w) k → k ∈ keys_of w (route_of w k.channel k.place)
  routed k i =
      let h : _ = inside_is w k i in
      let l : ℕ = route_of w k.channel k.place in
      let r : _ = s.row k.channel k.place h.0 h.1 in
      let m : key_of w l r.at ∈ keys_to w l (rows_of w l) = row_key w l (rows_of w l) r.at r.inside in
      rw (keys_are w l ((s.channel k.channel h.0).route.known k.place h.1)) (rw (r.channel, r.place) at m)

  pub placed : (l : ℕ) (k : Key) → k ∈ keys_of w l → Inside (plan_of w) k
  placed l k m = go (dec_lt l (links_of w))
    where
      go : Dec (l < links_of w) → Inside (plan_of w) k
      go (yes h) =
          let x : _ = key_row w l (rows_of w l) k (rw (keys_are w l h) at m) in
          let r : _ = (s.rows l h).rows x.0 x.1 in
          rw x.2 (is_inside w (key_of w l x.0) r.channel r.place)
      go (no h) = absurd (Memᴰ.not-nil (rw (no_keys w l (omega (arith, h))) at m))

  pub planned : ((l : ℕ) → l < links_of w → Table (table_of w l)) → Planned (plan_of w)
  planned t = record { tables = tables w t; routed = routed; placed = placed }
