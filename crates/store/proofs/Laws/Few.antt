-- The channels, links, places and rows of a sound store are numbered below the most that there may be.
use Prim.Native.Nat.{ℕ, ◌<◌}
use native.Mathlib.Omega.{arith}
use Rattle.kinds.specs.Ranges.{most_links, most_channels, most_rows, most_hops}
use Rattle.store.specs.Layout.{Store, links_of, rows_of, hops_of, IsChannel}
use Rattle.store.proofs.Laws.Sound.{Sound}

module _ {w : Store} (sound : Sound w) where
  pub few_channels : (x : ℕ) → IsChannel w x → x < most_channels
  few_channels x h = omega (arith, sound.counts.channels_most)

  pub few_links : (l : ℕ) → l < links_of w → l < most_links
  few_links l h = omega (arith, sound.counts.links_most)

  pub few_places : (x j : ℕ) → IsChannel w x → j < hops_of w x → j < most_hops
  few_places x j h i = omega (arith, (sound.channel x h).hops_most)

  pub few_rows : (l k : ℕ) → l < links_of w → k < rows_of w l → k < most_rows
  few_rows l k h i = omega (arith, (sound.link l h).rows_most)
