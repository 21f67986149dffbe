-- The channels of a store as those of a plan: their places, and how much later logical times are there.
use Prim.Native.Nat.{ℕ, zero, suc, ◌≤◌, ◌<◌}
use mathlib.Core.Path.{◌≡◌, refl}
use native.Mathlib.Decide.{dec_lt}
use native.Mathlib.Omega.{arith}
use borrow.Author.Tests.{lt-ltb, le-ltb}
use Rattle.schedule.specs.Channel.{offset}
use Rattle.schedule.specs.Network.{Key, Inside}
use Rattle.store.specs.Layout.{Store, channels_of, hops_of, delay_of, IsChannel}
use Rattle.folds.specs.Folds.{sum_to}
use Rattle.promise_view.specs.View.{places_of, channel_of, plan_of}

-- "the logical time is that of the link before plus the delay there": the delays up to a place, added up
pub offset_is : (w : Store) (x j : ℕ) → offset (channel_of w x) j ≡ sum_to (delay_of w x) j
unfolding offset sum_to
offset_is w x zero = refl
offset_is w x (suc j) = rw (offset_is w x j)

places_are : (w : Store) (x : ℕ) → IsChannel w x → places_of w x ≡ hops_of w x
unfolding places_of
places_are w x h = rw (lt-ltb x (channels_of w) h, places_of)

no_places : (w : Store) (x : ℕ) → channels_of w ≤ x → places_of w x ≡ 0
unfolding places_of
no_places w x h = rw (le-ltb x (channels_of w) h, places_of)

-- a place of the plan is one of a channel that was opened
pub place_is : (w : Store) (x j : ℕ) → j < places_of w x → (IsChannel w x) × (j < hops_of w x)
place_is w x j i = go (dec_lt x (channels_of w))
  where
    go : Dec (IsChannel w x) → (IsChannel w x) × (j < hops_of w x)
    go (yes h) = (h, omega (arith, places_are w x h))
    go (no h) = absurd (omega (arith, no_places w x (omega (arith, h))))

pub inside_is : (w : Store) (k : Key) → Inside (plan_of w) k → (IsChannel w k.channel) × (k.place < hops_of w k.channel)
inside_is w k = place_is w k.channel k.place

pub is_inside : (w : Store) (k : Key) → IsChannel w k.channel → k.place < hops_of w k.channel → Inside (plan_of w) k
is_inside w k h i = omega (arith, places_are w k.channel h)
