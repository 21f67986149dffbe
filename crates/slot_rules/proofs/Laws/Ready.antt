-- What a call on a sound store asks before it reads: that the store is long enough, and each number within what is counted.
use Prim.Native.Nat.{ℕ, ◌≤◌, ◌<◌}
use mathlib.Core.Path.{◌≡◌}
use mathlib.Core.Bool.{true}
use Rattle.kinds.specs.Ranges.{most_links, most_channels, most_rows, most_hops, most_horizon, end_slot}
use Rattle.store.specs.Layout.{Store, Long, links_of, channels_of, clock_of, horizon_of, rows_of, row_channel_of, row_place_of, hops_of, route_of, sent_of, IsChannel}
use Rattle.store.specs.Amounts.{entered_of}
use Rattle.store.specs.Sound.{sound_of}
use Rattle.store.specs.Ranged.{Ranged}
use Rattle.store.proofs.Laws.Sound.{sound_is}
use Rattle.store.proofs.Laws.Few.{few_channels, few_links, few_places, few_rows}
use Rattle.store.proofs.Laws.Rows.{place_ranged}

module _ (w : Store) (e : sound_of w ≡ true) where
  pub long_enough : Long w
  long_enough = (sound_is w e).long

  pub clock_small : clock_of w ≤ end_slot
  clock_small = (sound_is w e).counts.clock_most

  pub links_few : links_of w ≤ most_links
  links_few = (sound_is w e).counts.links_most

  pub channels_few : channels_of w ≤ most_channels
  channels_few = (sound_is w e).counts.channels_most

  pub link_small : (l : ℕ) → l < links_of w → l < most_links
  link_small = few_links (sound_is w e)

  pub horizon_small : (l : ℕ) → l < links_of w → horizon_of w l ≤ most_horizon
  horizon_small l h = ((sound_is w e).link l h).good.horizon_most

  pub rows_few : (l : ℕ) → l < links_of w → rows_of w l ≤ most_rows
  rows_few l h = ((sound_is w e).link l h).rows_most

  pub row_small : (l k : ℕ) → l < links_of w → k < rows_of w l → k < most_rows
  row_small = few_rows (sound_is w e)

  pub row_has_channel : (l k : ℕ) → l < links_of w → k < rows_of w l → IsChannel w (row_channel_of w l k)
  row_has_channel l k h i = (((sound_is w e).rows l h).rows k i).channel

  pub row_has_place : (l k : ℕ) → l < links_of w → k < rows_of w l → row_place_of w l k < hops_of w (row_channel_of w l k)
  row_has_place l k h i = (((sound_is w e).rows l h).rows k i).place

  pub channel_small : (x : ℕ) → IsChannel w x → x < most_channels
  channel_small = few_channels (sound_is w e)

  pub hops_few : (x : ℕ) → IsChannel w x → hops_of w x ≤ most_hops
  hops_few x h = ((sound_is w e).channel x h).hops_most

  pub place_small : (x j : ℕ) → IsChannel w x → j < hops_of w x → j < most_hops
  place_small = few_places (sound_is w e)

  pub sent_most : (x j : ℕ) → IsChannel w x → j < hops_of w x → sent_of w x j ≤ entered_of w x j
  sent_most x j h i = ((sound_is w e).channel x h).course.flows j i

  pub place_has_link : (x j : ℕ) → IsChannel w x → j < hops_of w x → route_of w x j < links_of w
  place_has_link x j h i = ((sound_is w e).channel x h).route.known j i

  pub place_in_range : (x j : ℕ) → IsChannel w x → j < hops_of w x → Ranged w x
  place_in_range = place_ranged w e

pub ruleset ready = (long_enough, clock_small, links_few, channels_few, link_small, horizon_small, rows_few, row_small, row_has_channel, row_has_place, channel_small, hops_few, place_small, sent_most, place_has_link, place_in_range)
