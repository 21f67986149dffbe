-- After an accepted open each place of each route, old or new, has its row.
use Prim.Native.Nat.{ℕ, ◌<◌}
use native.Mathlib.Omega.{arith}
use Rattle.store.specs.Layout.{Store, channels_of, hops_of, route_of, IsChannel}
use Rattle.store.proofs.Laws.Sound.{RowFor}
use Rattle.open_rules.specs.Request.{Request, hops}
use Rattle.store_same.proofs.Same.{hops_same, route_same}
use Rattle.open_keeps.proofs.Kept.{Opened, was_sound, links_kept, record_kept}
use Rattle.open_keeps.proofs.Away.{away_row}
use Rattle.open_keeps.proofs.Join.{join_old, join_new}
use Rattle.open_keeps.proofs.Each.{each_link, each_channel}

module _ {w w' : Store} {q : Request} {d : ℕ → ℕ} (o : Opened w w' q d) where
  -- a link keeps each row that it has
  row_kept : (x j : ℕ) → IsChannel w x → j < hops_of w x → RowFor w' x j (route_of w x j)
  row_kept x j h i =
      each_link o (λ l. RowFor w x j l → RowFor w' x j l)
      (λ k m. join_old o k m)
      (λ l m a. away_row o l m a)
      (route_of w x j)
      (rw (links_kept o) (((was_sound o).channel x h).route.known j i))
      ((was_sound o).row x j h i)

  pub all_listed_lem : (x : ℕ) → IsChannel w' x → (j : ℕ) → j < hops_of w' x → RowFor w' x j (route_of w' x j)
  all_listed_lem = each_channel o (λ x. (j : ℕ) → j < hops_of w' x → RowFor w' x j (route_of w' x j)) old new
    where
      old : (x : ℕ) → IsChannel w x → (j : ℕ) → j < hops_of w' x → RowFor w' x j (route_of w' x j)
      old x h j i =
          let same = record_kept o x h in
          let m : j < hops_of w x = rw (hops_same same) at i in
          rw (route_same same j (omega (arith, ((was_sound o).channel x h).hops_most))) (row_kept x j h m)

      new : (j : ℕ) → j < hops_of w' (channels_of w) → RowFor w' (channels_of w) j (route_of w' (channels_of w) j)
      new j i =
          let m : j < hops q = rw o.after.hops_is at i in
          rw (o.after.route_is j m) (join_new o j m)
