-- After a slot logical times are as near to the clock as before, and delays add up to no more.
use Prim.Native.Nat.{ℕ, suc, ◌+◌, ◌≤◌, ◌<◌}
use mathlib.Core.Path.{◌≡◌, refl}
use mathlib.Core.Logic.{inl, inr}
use mathlib.Core.Bool.{Bool, true, false}
use native.Mathlib.Decide.{dec_lt}
use native.Mathlib.Omega.{arith}
use lib.ListN.{length}
use Rattle.store.specs.Layout.{Store, clock_of, c_of, p_of, hops_of, route_of, delay_of, sent_of, horizon_of, IsChannel}
use Rattle.folds.specs.Folds.{sum_to}
use Rattle.store_same.proofs.Settled.{channels_same, network_same}
use Rattle.store_same.proofs.Numbers.{SameNumbers, settled_numbers, horizon_is}
use Rattle.slot_rules.specs.Head.{logical_of}
use Rattle.slot_rules.specs.Pick.{row_logical}
use Rattle.slot_rules.specs.Slot.{moved}
use Rattle.slot_rules.proofs.Laws.Pick.{PickIs, pick_is}
use Rattle.slot_keeps.specs.Room.{leaves}
use Rattle.slot_keeps.proofs.Leaves.{row_leaving, leaving_held}
use Rattle.slot_keeps.proofs.After.{moved_settled, clock_after, sent_goes, sent_stays}
use Rattle.promise_queue.specs.Queue.{time_at, end_after}
use Rattle.promise_queue.proofs.Ends.{end_rises, end_one}
use Rattle.promise_view.specs.View.{Accepted}
use Rattle.promise_view.proofs.Seen.{Seen, Near, InBurst, Within}
use Rattle.promise_view.proofs.Same.{delays_same}
use Rattle.promise_view.proofs.Bounds.{burst_same}
use Rattle.promise_view.proofs.Settled.{within_kept}
use Rattle.promise_view.proofs.Next.{NextIs, next_is}

module _ {w : Store} {all : Accepted} (s : Seen w all) where
  module _ (x j : ℕ) (h : IsChannel w x) (i : j < hops_of w x) where
    -- a packet that leaves is current, or within the horizon
    leaving_near : leaves w x j ≡ true → logical_of w x j ≤ clock_of w + horizon_of w (route_of w x j)
    leaving_near e =
        let r : _ = row_leaving s.sound x j h i e in
        rw (r.channel, r.place) at (near r.row (rw r.picks at (pick_is w (route_of w x j))))
      where
        near : (k : ℕ) → PickIs w (route_of w x j) (suc k)
            → row_logical w (route_of w x j) k ≤ clock_of w + horizon_of w (route_of w x j)
        near k (inl d) = omega (arith, d.current)
        near k (inr d) = d.near

    -- the message that it is of
    leaving_time : leaves w x j ≡ true → (n : ℕ) → n < length (all x) → end_after (all x) n ≡ sent_of w x j
        → time_at (all x) n + sum_to (delay_of w x) j ≤ clock_of w + horizon_of w (route_of w x j)
    leaving_time e n l m =
        let y : NextIs w x j (all x) = next_is (s.sound.channel x h) (s.told x h) j i (leaving_held s.sound x j h i e) in
        let rises : _ = end_rises (c_of w x) (p_of w x) (all x) (s.orderly x) n l in
        let same : n ≡ y.n = end_one (c_of w x) (p_of w x) (all x) (s.orderly x) (sent_of w x j) n y.n l y.inside
        (omega arith) (omega arith) y.starts y.ends in
        rw same (omega (arith, leaving_near e, y.logical))

    -- so a message of which a packet has gone on from here is as near as that
    pub near_here : Near w all → suc j < hops_of w x → (n : ℕ) → n < length (all x) → end_after (all x) n < sent_of (moved w) x j
        → time_at (all x) n + sum_to (delay_of w x) j ≤ clock_of w + horizon_of w (route_of w x j)
    near_here near k n l m = go (dec_lt (end_after (all x) n) (sent_of w x j)) (leaves w x j) refl
      where
        go : Dec (end_after (all x) n < sent_of w x j) → (b : Bool) → leaves w x j ≡ b
            → time_at (all x) n + sum_to (delay_of w x) j ≤ clock_of w + horizon_of w (route_of w x j)
        go (yes d) b e = omega (arith, near x j n h k l d)
        go (no d) true e = leaving_time e n l (omega (arith, d, sent_goes s.sound x j h i e))
        go (no d) false e = absurd (omega (arith, d, sent_stays s.sound x j h i e))

  -- the channels, and their numbers, are those of before
  old_channel : (x : ℕ) → IsChannel (moved w) x → IsChannel w x
  old_channel x h = rw (channels_same (moved_settled s.sound)) at h

  numbers : (x : ℕ) → IsChannel w x → SameNumbers w (moved w) x
  numbers = settled_numbers s.sound (moved_settled s.sound)

  pub near_after : Near w all → Near (moved w) all
  near_after near x j n h i l m =
      let a : IsChannel w x = old_channel x h in
      let same : SameNumbers w (moved w) x = numbers x a in
      let b : suc j < hops_of w x = rw same.hops_are at i in
      let here : j < hops_of w x = omega arith in
      let bound : _ = near_here x j a here near b n l m in
      rw (delays_same same j (omega arith), horizon_is s.sound (network_same (moved_settled s.sound)) same a j here)
      (rw (clock_after s.sound) (omega arith))

  pub in_burst_after : InBurst w all → InBurst (moved w) all
  in_burst_after burst x n h =
      let a : IsChannel w x = old_channel x h in
      burst_same (numbers x a) (omega (arith, clock_after s.sound)) n (all x) (burst x n a)

  pub within_after : Within w → Within (moved w)
  within_after = within_kept (moved_settled s.sound) s.sound
