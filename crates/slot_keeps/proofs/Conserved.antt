-- "At all times accepted packets of a channel equal those held plus those delivered."
use Prim.Native.Nat.{ℕ, zero, suc, ◌+◌, ◌-◌, ◌<◌}
use mathlib.Core.Path.{◌≡◌}
use native.Mathlib.Omega.{arith}
use Rattle.store.specs.Layout.{Store, hops_of, sent_of, IsChannel}
use Rattle.folds.specs.Folds.{sum_to}
use Rattle.store.specs.Amounts.{accepted_of, delivered_of, entered_of, held_of}
use Rattle.store.proofs.Laws.Sound.{ChannelIs, Sound}

-- up to a place: those held there and before it, and those sent on from it
conserved_to : {w : Store} {x : ℕ} → ChannelIs w x → (j : ℕ) → j < hops_of w x
    → sum_to (held_of w x) (suc j) + sent_of w x j ≡ accepted_of w x
unfolding sum_to entered_of
conserved_to k zero h = omega (arith, k.course.flows zero h)
conserved_to k (suc j) h = omega (arith, k.course.flows (suc j) h, conserved_to k j (omega arith))

pub conserved : {w : Store} → Sound w → (x : ℕ) → IsChannel w x
    → sum_to (held_of w x) (hops_of w x) + delivered_of w x ≡ accepted_of w x
conserved {w} s x h =
    let k = s.channel x h in
    let e : suc (hops_of w x - 1) ≡ hops_of w x = omega (arith, k.hops_least) in
    rw e at (conserved_to k (hops_of w x - 1) (omega (arith, k.hops_least)))
