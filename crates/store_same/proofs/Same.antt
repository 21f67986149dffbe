-- Two stores that have the same network, and the same numbers in a channel's record: what is defined of the channel is the same
-- in both.
use Prim.Native.Nat.{ℕ, zero, suc, ◌+◌, ◌-◌, ◌≤◌, ◌<◌}
use mathlib.Core.Path.{◌≡◌, sym, ◌∙◌}
use native.Mathlib.Omega.{arith}
use Rattle.kinds.specs.Ranges.{most_links, most_hops}
use Rattle.store.specs.Layout.{Store, number_at, channel_at, record_length, ring, links_of, channels_of, from_of, to_of, horizon_of}
use Rattle.store.specs.Layout.{buffer_of, c_of, p_of, d_of, b_of, hops_of, messages_of, route_of, delay_of, sent_of, time_of, end_of, c_at}
use Rattle.store.specs.Layout.{p_at, d_at, b_at, hops_at, messages_at, route_at, delay_at, sent_at, time_at, end_at, IsChannel}
use Rattle.store.specs.Amounts.{reserved_of, accepted_of, delivered_of, entered_of, held_of, reserved_along}
use Rattle.store.specs.Sound.{delivered, follows, in_order, last_time_of}
use Rattle.folds.proofs.Folds.{sum_same}
use Rattle.store.proofs.Laws.Sound.{Good345, ChannelIs}

-- the links and their own numbers; rows are not among them
pub record SameNetwork (w w' : Store) : Type 0 where
  pub links : links_of w' ≡ links_of w
  pub from : (l : ℕ) → l < most_links → from_of w' l ≡ from_of w l
  pub to : (l : ℕ) → l < most_links → to_of w' l ≡ to_of w l
  pub horizon : (l : ℕ) → l < most_links → horizon_of w' l ≡ horizon_of w l
  pub buffer : (l : ℕ) → l < most_links → buffer_of w' l ≡ buffer_of w l

-- every number of channel x's record
pub record SameRecord (w w' : Store) (x : ℕ) : Type 0 where
  pub number : (at : ℕ) → channel_at x ≤ at → at < channel_at x + record_length → number_at w' at ≡ number_at w at

-- w' has the network and the channels of w; it may have more channels
pub record Keeps (w w' : Store) : Type 0 where
  pub network : SameNetwork w w'
  pub more : channels_of w ≤ channels_of w'
  pub channel : (x : ℕ) → IsChannel w x → SameRecord w w' x

-- a route that passes 3, 4 and 5
pub good_same : {w w' : Store} → SameNetwork w w' → links_of w ≤ most_links → (route route' : ℕ → ℕ) (n : ℕ)
    → ((j : ℕ) → j < n → route' j ≡ route j) → Good345 w route n → Good345 w' route' n
good_same network few route route' n same g = record {
  known = λ j h. rw (same j h, network.links) (g.known j h);
  new = λ j i h l e. g.new j i h l (sym (same i (omega arith)) ∙ (e ∙ same j h));
  joined = λ j h.
      rw (same (suc j) h, same j (omega arith), network.from _ (most (suc j) h), network.to _ (most j (omega arith)))
      (g.joined j h);
}
  where
    most : (j : ℕ) → j < n → route j < most_links
    most j h = omega (arith, g.known j h)

module _ {w w' : Store} {x : ℕ} (same : SameRecord w w' x) where
  -- each field
  pub c_same : c_of w' x ≡ c_of w x
  c_same = same.number (c_at x) (omega arith) (omega arith)

  pub p_same : p_of w' x ≡ p_of w x
  p_same = same.number (p_at x) (omega arith) (omega arith)

  pub d_same : d_of w' x ≡ d_of w x
  d_same = same.number (d_at x) (omega arith) (omega arith)

  pub b_same : b_of w' x ≡ b_of w x
  b_same = same.number (b_at x) (omega arith) (omega arith)

  pub hops_same : hops_of w' x ≡ hops_of w x
  hops_same = same.number (hops_at x) (omega arith) (omega arith)

  pub messages_same : messages_of w' x ≡ messages_of w x
  messages_same = same.number (messages_at x) (omega arith) (omega arith)

  pub route_same : (j : ℕ) → j < most_hops → route_of w' x j ≡ route_of w x j
  route_same j h = same.number (route_at x j) (omega arith) (omega arith)

  pub delay_same : (j : ℕ) → j < most_hops → delay_of w' x j ≡ delay_of w x j
  delay_same j h = same.number (delay_at x j) (omega arith) (omega arith)

  pub sent_same : (j : ℕ) → j < most_hops → sent_of w' x j ≡ sent_of w x j
  sent_same j h = same.number (sent_at x j) (omega arith) (omega arith)

  pub time_same : (n : ℕ) → time_of w' x n ≡ time_of w x n
  time_same n = same.number (time_at x n) (omega arith) (omega arith)

  pub end_same : (n : ℕ) → end_of w' x n ≡ end_of w x n
  end_same n = same.number (end_at x n) (omega arith) (omega arith)

  -- each amount
  pub accepted_same : accepted_of w' x ≡ accepted_of w x
  accepted_same = rw messages_same (end_same (messages_of w x))

  pub entered_same : (j : ℕ) → j < most_hops → entered_of w' x j ≡ entered_of w x j
  unfolding entered_of
  entered_same zero h = accepted_same
  entered_same (suc j) h = sent_same j (omega arith)

  pub held_same : (j : ℕ) → j < most_hops → held_of w' x j ≡ held_of w x j
  held_same j h = rw (entered_same j h, sent_same j h)

  -- the time and the order of its messages
  module _ (few : hops_of w x ≤ most_hops) where
    last_time_same : last_time_of w' x ≡ last_time_of w x
    last_time_same =
        rw (messages_same, time_same (messages_of w x), hops_same)
        (rw (sum_same (delay_of w' x) (delay_of w x) (hops_of w x - 1) (λ i h. delay_same i (omega arith))))

    pub delivered_same : delivered_of w' x ≡ delivered_of w x
    delivered_same = rw hops_same (sent_same (hops_of w x - 1) (omega arith))

    past_same : (n : ℕ) → delivered w' x n ≡ delivered w x n
    past_same n = rw (end_same n, delivered_same)

    follows_same : (n : ℕ) → follows w' x n ≡ follows w x n
    follows_same n =
        rw (past_same n, end_same n, end_same (n + 1), time_same n, time_same (n + 1), c_same, p_same)

    pub order_same : (n kept : ℕ) → in_order w' x n kept ≡ in_order w x n kept
    unfolding in_order
    order_same zero zero = past_same 0
    order_same zero (suc k) = past_same 0
    order_same (suc n) zero = past_same (suc n)
    order_same (suc n) (suc k) = rw (past_same (suc n), follows_same n, order_same n k)

  -- Of a sound record in a sound network: what is reserved, and that it stays sound.
  module _ (network : SameNetwork w w') (few : links_of w ≤ most_links) (k : ChannelIs w x) where
    pub reserved_same : (j : ℕ) → j < hops_of w x → reserved_of w' x j ≡ reserved_of w x j
    unfolding reserved_of reserved_along
    reserved_same zero h = rw (c_same, b_same)
    reserved_same (suc j) h =
        let i : suc j < most_hops = omega (arith, k.hops_most) in
        let l : j < most_hops = omega arith in
        let m : route_of w x j < most_links = omega (arith, k.route.known j (omega arith)) in
        rw (c_same, p_same, route_same j l, network.horizon (route_of w x j) m, delay_same j l, delay_same (suc j) i)

    pub channel_same : ChannelIs w' x
    channel_same = record {
      good = rw (c_same, p_same, d_same, b_same) k.good;
      hops_least = rw hops_same k.hops_least;
      hops_most = rw hops_same k.hops_most;
      route = rw hops_same
          (good_same network few (route_of w x) (route_of w' x) (hops_of w x) (λ j h. route_same j (inside j h)) k.route);
      delay_least = λ j h. let i = old j h in rw (delay_same j (inside j i)) (k.delay_least j i);
      delay_most = λ j h. let i = old j h in rw (delay_same j (inside j i), p_same) (k.delay_most j i);
      course = record {
        flows = λ j h. let i = old j h in rw (sent_same j (inside j i), entered_same j (inside j i)) (k.course.flows j i);
        messages_most = rw messages_same k.course.messages_most;
        time_most = λ h. rw (last_time_same k.hops_most) (k.course.time_most (rw messages_same at h));
        accepted_most = rw (accepted_same, c_same, messages_same) k.course.accepted_most;
        order = rw (messages_same, order_same k.hops_most (messages_of w x) (ring - 1)) k.course.order;
      };
    }
      where
        inside : (j : ℕ) → j < hops_of w x → j < most_hops
        inside j h = omega (arith, k.hops_most)

        old : (j : ℕ) → j < hops_of w' x → j < hops_of w x
        old j h = rw hops_same at h
