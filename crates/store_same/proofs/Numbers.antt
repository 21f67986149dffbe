-- What opens have settled of a channel: its numbers, route and delays, and what is reserved. Offers and slots leave it as it
-- was to every channel, and an open to every channel that there was.
use Prim.Native.Nat.{ℕ, ◌<◌}
use mathlib.Core.Path.{◌≡◌}
use native.Mathlib.Omega.{arith}
use Rattle.kinds.specs.Ranges.{most_channels}
use Rattle.store.specs.Layout.{Store, c_of, p_of, d_of, b_of, hops_of, route_of, delay_of, horizon_of, IsChannel}
use Rattle.store.specs.Amounts.{reserved_of}
use Rattle.store.proofs.Laws.Sound.{Sound}
use Rattle.store.proofs.Laws.Few.{few_channels, few_links, few_places}
use Rattle.store_same.proofs.Same.{SameNetwork, SameRecord, Keeps, c_same, p_same, d_same, b_same, hops_same, route_same}
use Rattle.store_same.proofs.Same.{delay_same, reserved_same}
use Rattle.store_same.proofs.Settled.{Settled, channels_same, c_kept, p_kept, d_kept, b_kept, hops_kept, route_kept}
use Rattle.store_same.proofs.Settled.{delay_kept, reserved_kept}

pub record SameNumbers (w w' : Store) (x : ℕ) : Type 0 where
  pub there : IsChannel w' x
  pub c_is : c_of w' x ≡ c_of w x
  pub p_is : p_of w' x ≡ p_of w x
  pub d_is : d_of w' x ≡ d_of w x
  pub b_is : b_of w' x ≡ b_of w x
  pub hops_are : hops_of w' x ≡ hops_of w x
  pub route_is : (j : ℕ) → j < hops_of w x → route_of w' x j ≡ route_of w x j
  pub delay_is : (j : ℕ) → j < hops_of w x → delay_of w' x j ≡ delay_of w x j
  pub reserved_is : (j : ℕ) → j < hops_of w x → reserved_of w' x j ≡ reserved_of w x j

module _ {w w' : Store} (sound : Sound w) where
  pub settled_numbers : Settled w w' → (x : ℕ) → IsChannel w x → SameNumbers w w' x
  settled_numbers settled x h =
      let few : x < most_channels = few_channels sound x h in
      record {
        there = rw (channels_same settled) h;
        c_is = c_kept settled x few;
        p_is = p_kept settled x few;
        d_is = d_kept settled x few;
        b_is = b_kept settled x few;
        hops_are = hops_kept settled x few;
        route_is = λ j i. route_kept settled x few j (few_places sound x j h i);
        delay_is = λ j i. delay_kept settled x few j (few_places sound x j h i);
        reserved_is = reserved_kept settled sound x h;
      }

  pub kept_numbers : Keeps w w' → (x : ℕ) → IsChannel w x → SameNumbers w w' x
  kept_numbers keeps x h =
      let same : SameRecord w w' x = keeps.channel x h in
      record {
        there = omega (arith, keeps.more);
        c_is = c_same same;
        p_is = p_same same;
        d_is = d_same same;
        b_is = b_same same;
        hops_are = hops_same same;
        route_is = λ j i. route_same same j (few_places sound x j h i);
        delay_is = λ j i. delay_same same j (few_places sound x j h i);
        reserved_is = reserved_same same keeps.network sound.counts.links_most (sound.channel x h);
      }

  -- the horizon of a link of its route
  pub horizon_is : SameNetwork w w' → {x : ℕ} → SameNumbers w w' x → IsChannel w x → (j : ℕ) → j < hops_of w x
      → horizon_of w' (route_of w' x j) ≡ horizon_of w (route_of w x j)
  horizon_is network {x} same h j i =
      rw (same.route_is j i)
      (network.horizon (route_of w x j) (few_links sound (route_of w x j) ((sound.channel x h).route.known j i)))
