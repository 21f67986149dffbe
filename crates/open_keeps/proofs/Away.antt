-- After an accepted open a link that is not on the route has the rows that it had, and they are sound.
use Prim.Native.Nat.{ℕ, ◌<◌}
use mathlib.Core.Path.{◌≡◌, ap}
use native.Mathlib.Omega.{arith}
use Rattle.kinds.specs.Ranges.{most_links, most_rows}
use Rattle.store.specs.Layout.{Store, links_of, rows_of, rows_at, row_channel_at, row_place_at}
use Rattle.folds.proofs.Folds.{sum_same}
use Rattle.store.proofs.Laws.Sound.{RowsAre, RowFor}
use Rattle.open_rules.specs.Request.{Request, hops, link}
use Rattle.open_keeps.proofs.Place.{Away}
use Rattle.open_keeps.proofs.Kept.{Opened, was_sound, links_few, away_kept, network_kept, open_keeps}
use Rattle.open_keeps.proofs.Rows.{entry, entry_is, entry_reserved, Rows, rows_here, here_rows, rows_same, row_again}
use Rattle.open_keeps.proofs.Old.{old_rows, old_taken}

module _ {w w' : Store} {q : Request} {d : ℕ → ℕ} (o : Opened w w' q d) where
  module _ (l : ℕ) (h : l < links_of w) (away : Away (link q) (hops q) l) where
    few : l < most_links
    few = omega (arith, links_few o)

    pub away_count : rows_of w' l ≡ rows_of w l
    away_count = away_kept o l (rows_at l) few away (omega arith) (omega arith)

    pub away_entry : (k : ℕ) → k < rows_of w l → entry w' l k ≡ entry w l k
    away_entry k i =
        let m : k < most_rows = omega (arith, ((was_sound o).link l h).rows_most) in
        entry_is
        (away_kept o l (row_channel_at l k) few away (omega arith) (omega arith))
        (away_kept o l (row_place_at l k) few away (omega arith) (omega arith))

    pub away_rows : RowsAre w' l
    away_rows =
        let n : ℕ = rows_of w l in
        let r : Rows w l n (entry w l) = rows_here ((was_sound o).rows l h) in
        let same : _ = sum_same _ _ n (λ k i. ap (entry_reserved w') (away_entry k i)) in
        let taken : _ = old_taken (was_sound o) (open_keeps o) r in
        here_rows away_count
        (rows_same away_entry (old_rows (was_sound o) (open_keeps o) r))
        (rw (same, taken, (network_kept o).buffer l few) ((was_sound o).rows l h).fits)

    pub away_row : {x j : ℕ} → RowFor w x j l → RowFor w' x j l
    away_row r = row_again r r.at (rw away_count r.inside) (away_entry r.at r.inside)
