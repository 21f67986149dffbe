-- Each message is in time: from its deadline at a place on, all its packets have been sent there.
use Prim.Native.Nat.{ℕ, suc, ◌+◌, ◌≤◌, ◌<◌}
use native.Mathlib.Decide.{dec_lt}
use native.Mathlib.Omega.{arith}
use lib.ListN.{length}
use Rattle.schedule.specs.Network.{Key, AllCounted, OnLinks}
use Rattle.schedule.proofs.Network.{in_time as schedule_in_time}
use Rattle.store.specs.Layout.{Store, hops_of, delay_of, sent_of, IsChannel}
use Rattle.folds.specs.Folds.{sum_to}
use Rattle.promise_queue.specs.Queue.{time_at, end_after}
use Rattle.promise_queue.proofs.Ends.{message_at}
use Rattle.promise_view.specs.View.{plan_of, Accepted, traffic_of}
use Rattle.promise_view.proofs.Seen.{Seen}
use Rattle.promise_view.proofs.Places.{offset_is, is_inside}
use Rattle.promise_view.proofs.Planned.{planned}
use Rattle.promise_view.proofs.Counted.{counted}

-- with the plan of w, where w' says how much has been sent
module _ {w : Store} {all : Accepted} (s : Seen w all) (w' : Store) (now : AllCounted (plan_of w) (traffic_of w' all)) (t : ℕ)
    (on : OnLinks (plan_of w) (traffic_of w' all) t) (x j n : ℕ) (h : IsChannel w x) (i : j < hops_of w x)
    (l : n < length (all x)) where
  all_sent_lem : time_at (all x) n + sum_to (delay_of w x) (suc j) ≤ t → end_after (all x) (suc n) ≤ sent_of w' x j
  all_sent_lem past =
      let k : Key = record { channel = x; place = j } in
      let a : _ = message_at (all x) n l in
      rw (← a.end_is) (schedule_in_time (plan_of w) (planned s.sound s.tables) (traffic_of w' all) now t on k
      (is_inside w k h i) a.message a.there (omega (arith, a.time_is, offset_is w x (suc j))))

  -- so that the deadline of one that is not wholly sent is still to come
  pub still_before : sent_of w' x j < end_after (all x) (suc n) → t < time_at (all x) n + sum_to (delay_of w x) (suc j)
  still_before unsent = go (dec_lt t (time_at (all x) n + sum_to (delay_of w x) (suc j)))
    where
      go : Dec (t < time_at (all x) n + sum_to (delay_of w x) (suc j)) → t < time_at (all x) n + sum_to (delay_of w x) (suc j)
      go (yes d) = d
      go (no d) = absurd (omega (arith, unsent, all_sent_lem (omega (arith, d))))

module _ {w : Store} {all : Accepted} (s : Seen w all) (t : ℕ) (on : OnLinks (plan_of w) (traffic_of w all) t) where
  pub in_time : (x j n : ℕ) → IsChannel w x → j < hops_of w x → n < length (all x)
      → time_at (all x) n + sum_to (delay_of w x) (suc j) ≤ t → end_after (all x) (suc n) ≤ sent_of w x j
  in_time = all_sent_lem s w (counted s) t on

  pub before_due : (x j n : ℕ) → IsChannel w x → j < hops_of w x → n < length (all x)
      → sent_of w x j < end_after (all x) (suc n) → t < time_at (all x) n + sum_to (delay_of w x) (suc j)
  before_due = still_before s w (counted s) t on
