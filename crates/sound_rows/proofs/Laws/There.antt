-- A channel that is there has a route of few links.
use Rattle.std.proofs.Common.{ℕ, ◌≤◌, ◌<◌}
use Rattle.kinds.specs.Ranges.{most_hops}
use Rattle.store.specs.Layout.{Store, channels_of, hops_of}
use Rattle.store.specs.Ranged.{Fit}
use Rattle.store.proofs.Laws.Sound.{fit_ranged}

pub hops_most : (w : Store) (x : ℕ) → Fit w → x < channels_of w → hops_of w x ≤ most_hops
hops_most w x f h = (fit_ranged w f x h).hops_most
