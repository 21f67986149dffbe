-- What the sums of this crate ask of their numbers, so that none comes near 2 ^ 64 and no link is read that is not there.
use Rattle.std.specs.Prelude.{ℕ, ◌≤◌, ◌<◌, List, length}
use Rattle.kinds.specs.Ranges.{most_horizon, most_hops, most_p}
use Rattle.store.specs.Layout.{Store, number_at, horizon_of}
use Rattle.store.specs.Route.{along, Known}

-- the first n numbers are at most `most`
abbrev pub AllUpTo : List ℕ → (n most : ℕ) → Type 0
AllUpTo numbers n most = (j : ℕ) → j < n → number_at numbers j ≤ most

-- a route whose links are there, and a delay from 1 to p at each place of it
pub record Places (w : Store) (p : ℕ) (route delays : List ℕ) : Type 0 where
  pub hops_most : length route ≤ most_hops
  pub p_least : 1 ≤ p
  pub p_most : p ≤ most_p
  pub known : Known (along route) (length route)
  pub horizon_most : (j : ℕ) → j < length route → horizon_of w (along route j) ≤ most_horizon
  pub delay_least : (j : ℕ) → j < length route → 1 ≤ number_at delays j
  pub delay_most : (j : ℕ) → j < length route → number_at delays j ≤ p
