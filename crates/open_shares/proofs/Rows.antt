-- What is reserved on a link of a sound store, and its buffer, as the code reads them.
use Prim.Native.Nat.{ℕ, ◌≤◌, ◌<◌}
use mathlib.Core.Path.{◌≡◌}
use mathlib.Core.Bool.{true}
use mathlib.Core.List.{List}
use native.Mathlib.Nat.{le_trans}
use borrow.Author.Tests.{ltb-true}
use Rattle.kinds.specs.Ranges.{most_buffer, most_rows}
use Rattle.store.specs.Layout.{Store, number_at, links_of, rows_of, row_channel_of, row_place_of, hops_of, IsChannel}
use Rattle.folds.specs.Folds.{every}
use Rattle.store.specs.Route.{along, exists}
use Rattle.store.specs.Ranged.{Ranged}
use Rattle.store.specs.Sound.{sound_of, row_reserved_of}
use Rattle.folds.proofs.Folds.{every_at, sum_part}
use Rattle.store.proofs.Laws.Sound.{RowIs, sound_is, sound_fit, fit_ranged}
use Rattle.store.proofs.Laws.Few.{few_rows}
use Rattle.open_rules.specs.Shares.{taken_of}

module _ (w : Store) (e : sound_of w ≡ true) (l : ℕ) (h : l < links_of w) where
  pub rows_few : rows_of w l ≤ most_rows
  rows_few = ((sound_is w e).link l h).rows_most

  pub taken_most : taken_of w l ≤ most_buffer
  taken_most = le_trans ((sound_is w e).rows l h).fits ((sound_is w e).link l h).good.buffer_most

  -- its row k
  module _ (k : ℕ) (i : k < rows_of w l) where
    stands : RowIs w l k
    stands = ((sound_is w e).rows l h).rows k i

    pub row_small : k < most_rows
    row_small = few_rows (sound_is w e) l k h i

    pub row_has_channel : IsChannel w (row_channel_of w l k)
    row_has_channel = stands.channel

    pub row_has_place : row_place_of w l k < hops_of w (row_channel_of w l k)
    row_has_place = stands.place

    pub row_in_range : Ranged w (row_channel_of w l k)
    row_in_range = fit_ranged w (sound_fit w e) (row_channel_of w l k) stands.channel

    pub row_most : row_reserved_of w l k ≤ most_buffer
    row_most = le_trans (sum_part (row_reserved_of w l) (rows_of w l) k i) taken_most

pub ruleset on_a_link = (rows_few, taken_most, row_small, row_has_channel, row_has_place, row_in_range, row_most)

-- a link of a lent route
module _ (w : Store) (route : List ℕ) where
  pub link_exists : (n : ℕ) → every (exists w (along route)) n ≡ true → (j : ℕ) → j < n → number_at route j < links_of w
  link_exists n e j h = ltb-true _ _ (every_at (exists w (along route)) n e j h)
