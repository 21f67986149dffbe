-- A link and a row of a sound store, and a place of a route in it, as code reads them.
use Prim.Native.Nat.{ℕ, ◌≤◌, ◌<◌}
use mathlib.Core.Path.{◌≡◌}
use mathlib.Core.Bool.{true}
use Rattle.kinds.specs.Ranges.{most_links, most_channels, most_rows, most_hops}
use Rattle.store.specs.Layout.{Store, Long, links_of, rows_of, row_channel_of, row_place_of, hops_of, IsChannel}
use Rattle.store.specs.Sound.{sound_of}
use Rattle.store.specs.Ranged.{Ranged}
use Rattle.store.proofs.Laws.Sound.{Sound, RowIs, sound_is, sound_fit, fit_ranged}
use Rattle.store.proofs.Laws.Few.{few_channels, few_links, few_places, few_rows}

module _ (w : Store) (e : sound_of w ≡ true) where
  s : Sound w
  s = sound_is w e

  -- link l is there, and can be read; so can its row k
  module _ (l : ℕ) (h : l < links_of w) where
    pub link_ready : Long w × (l < most_links)
    link_ready = (s.long, few_links s l h)

    pub rows_most : rows_of w l ≤ most_rows
    rows_most = (s.link l h).rows_most

    pub row_there : (k : ℕ) → k < rows_of w l → Long w × ((l < most_links) × (k < most_rows))
    row_there k i = (s.long, (few_links s l h, few_rows s l k h i))

  -- and place j of the route of channel x
  module _ (x j : ℕ) (h : IsChannel w x) (i : j < hops_of w x) where
    pub place_ranged : Ranged w x
    place_ranged = fit_ranged w (sound_fit w e) x h

    pub place_ready : Long w × ((x < most_channels) × (j < most_hops))
    place_ready = (s.long, (few_channels s x h, few_places s x j h i))

-- row k of link l was read: channel x, at place j of its route
pub record Row (w : Store) (l k x j : ℕ) : Type 0 where
  pub sound : sound_of w ≡ true
  pub there : l < links_of w
  pub below : k < rows_of w l
  pub its_channel : x ≡ row_channel_of w l k
  pub its_place : j ≡ row_place_of w l k

module _ {w : Store} {l k x j : ℕ} (r : Row w l k x j) where
  stands : RowIs w l k
  stands = ((sound_is w r.sound).rows l r.there).rows k r.below

  pub row_channel : IsChannel w x
  row_channel = rw r.its_channel stands.channel

  pub row_place : j < hops_of w x
  row_place = rw (r.its_channel, r.its_place) stands.place

  pub row_ranged : Ranged w x
  row_ranged = place_ranged w r.sound x j row_channel row_place

  pub row_ready : Long w × ((x < most_channels) × (j < most_hops))
  row_ready = place_ready w r.sound x j row_channel row_place
