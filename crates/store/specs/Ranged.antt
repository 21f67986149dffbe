-- What working with a channel's numbers asks of them, so that no sum comes near 2 ^ 64 and no link is read that is not there.
use Rattle.std.specs.Prelude.{ℕ, ◌+◌, ◌*◌, ◌≤◌, ◌<◌, ◌≡◌, true}
use Rattle.kinds.specs.Ranges.{most_links, most_horizon, most_channels, most_hops, most_c, most_p, most_b}
use Rattle.folds.specs.Folds.{every}
use Rattle.store.specs.Sound.{counts_fit, link_fits, channel_sound}
use Rattle.store.specs.Layout.{Store, Long, links_of, channels_of, c_of, p_of, b_of, hops_of, route_of, delay_of, horizon_of}

pub record Ranged (w : Store) (x : ℕ) : Type 0 where
  pub long : Long w
  pub channel : x < most_channels
  pub hops_most : hops_of w x ≤ most_hops
  pub c_most : c_of w x ≤ most_c
  pub b_most : b_of w x ≤ most_b
  pub p_least : 1 ≤ p_of w x
  pub p_most : p_of w x ≤ most_p
  pub delay_least : (j : ℕ) → j < hops_of w x → 1 ≤ delay_of w x j
  pub delay_most : (j : ℕ) → j < hops_of w x → delay_of w x j ≤ p_of w x
  pub route_most : (j : ℕ) → j < hops_of w x → route_of w x j < most_links
  pub horizon_most : (j : ℕ) → j < hops_of w x → horizon_of w (route_of w x j) ≤ most_horizon

-- What adding up the delays of a channel before place j asks.
abbrev pub SmallDelays : Store → (x j : ℕ) → Type 0
SmallDelays w x j = (i : ℕ) → i < j → delay_of w x i ≤ most_p

-- What is reserved on a later link is worked out from numbers like these: p, the horizon and the delay of the link before, the
-- delay here.
pub record Near (p h d' d : ℕ) : Type 0 where
  pub p_least : 1 ≤ p
  pub p_most : p ≤ most_p
  pub horizon_most : h ≤ most_horizon
  pub before_least : 1 ≤ d'
  pub before_most : d' ≤ most_p
  pub here_least : 1 ≤ d
  pub here_most : d ≤ most_p

-- what is reserved at any place is at most this
abbrev pub most_reserved : ℕ
most_reserved = most_c * (1 + (most_horizon + most_p + most_p))

-- What the rows of links may rely on, and the parts of soundness that are looked at after it.
pub record Fit (w : Store) : Type 0 where
  pub long : Long w
  pub counts : counts_fit w ≡ true
  pub links : every (link_fits w) (links_of w) ≡ true
  pub channels : every (channel_sound w) (channels_of w) ≡ true
