-- A message of the channel of an offer, the new one among them, that is not wholly sent at a place: its deadline there is still
-- to come, and it is no further ahead than the burst allows.
use Prim.Native.Nat.{ℕ, suc, ◌+◌, ◌-◌, ◌*◌, ◌≤◌, ◌<◌}
use mathlib.Core.List.{List, [], ◌∷◌, ◌++◌}
use native.Mathlib.Omega.{arith}
use lib.ListN.{length}
use Rattle.schedule.specs.Messages.{Message}
use Rattle.store.specs.Layout.{Store, clock_of, p_of, b_of, hops_of, delay_of, sent_of}
use Rattle.folds.specs.Folds.{sum_to}
use Rattle.folds.proofs.Folds.{sum_part}
use Rattle.promise_queue.specs.Queue.{time_at, end_after}
use Rattle.promise_view.specs.View.{Accepted}
use Rattle.promise_view.proofs.Seen.{Seen, Steady, InBurst}
use Rattle.promise_view.proofs.InTime.{before_due}
use Rattle.promise_offer.proofs.Passed.{Passed, message}
use Rattle.promise_offer.proofs.Each.{Old, New, each}
use Rattle.promise_offer.proofs.Time.{time_present, time_most}

-- a logical time at the source, with so many slots up to the deadline
abbrev pub Live : Store → (x slots ℓ : ℕ) → Type 0
Live w x slots ℓ = (clock_of w < ℓ + slots) × (ℓ ≤ clock_of w + (b_of w x - 1) * p_of w x)

module _ {w : Store} {all : Accepted} (s : Seen w all) (on : Steady w all) (burst : InBurst w all) {x packets : ℕ}
    (p : Passed w x packets) (j : ℕ) (h : j < hops_of w x) (n : ℕ) where
  abbrev more : List Message
  more = all x ++ (message w x packets ∷ [])

  abbrev slots : ℕ
  slots = sum_to (delay_of w x) (suc j)

  old_live : sent_of w x j < end_after more (suc n) → Old (all x) (message w x packets) n → Live w x slots (time_at more n)
  old_live g o =
      let unsent : sent_of w x j < end_after (all x) (suc n) = rw o.end at g in
      rw o.time
      (before_due s (clock_of w) on x j n p.known h o.inside unsent, burst x n p.known o.inside)

  new_live : New (all x) (message w x packets) n → Live w x slots (time_at more n)
  new_live o =
      let d = (s.sound.channel x p.known).delay_least j h in
      rw o.time
      (omega (arith, time_present w x, sum_part (delay_of w x) (suc j) j (omega arith)), time_most p)

  pub unsent_live : n < length more → sent_of w x j < end_after more (suc n) → Live w x slots (time_at more n)
  unsent_live l g = each (all x) (message w x packets) n l (old_live g) new_live
