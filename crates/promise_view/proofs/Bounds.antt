-- Delays and logical times that are in bounds are so in a store that has the same numbers of their channel and no earlier clock.
use Prim.Native.Nat.{ℕ, suc, ◌≤◌, ◌<◌}
use mathlib.Core.Path.{◌≡◌}
use mathlib.Core.List.{List}
use native.Mathlib.Omega.{arith}
use Rattle.schedule.specs.Messages.{Message}
use Rattle.store.specs.Layout.{Store, clock_of, hops_of, sent_of, IsChannel}
use Rattle.store.proofs.Laws.Sound.{Sound}
use Rattle.store_same.proofs.Same.{SameNetwork}
use Rattle.store_same.proofs.Numbers.{SameNumbers, horizon_is}
use Rattle.promise_view.proofs.Seen.{NearAt, InBurstAt, WithinAt}
use Rattle.promise_view.proofs.Same.{delays_same}

module _ {w w' : Store} {x : ℕ} (same : SameNumbers w w' x) where
  pub within_same : WithinAt w x → WithinAt w' x
  within_same within = rw (same.hops_are, same.d_is, delays_same same (hops_of w x) (omega arith)) within

  module _ (later : clock_of w ≤ clock_of w') where
    pub burst_same : (n : ℕ) (ms : List Message) → InBurstAt w x n ms → InBurstAt w' x n ms
    burst_same n ms burst l = rw (same.b_is, same.p_is) (omega (arith, burst l))

    -- where no packet more has been sent on
    pub near_same : Sound w → SameNetwork w w' → IsChannel w x → (j n : ℕ) (ms : List Message)
        → (j < hops_of w x → sent_of w' x j ≡ sent_of w x j) → NearAt w x j n ms → NearAt w' x j n ms
    near_same sound network h j n ms sent near i l e =
        let before : suc j < hops_of w x = rw same.hops_are at i in
        let here : j < hops_of w x = omega arith in
        rw (delays_same same j (omega arith), horizon_is sound network same h j here)
        (omega (arith, near before l (rw (sent here) at e)))
