-- What a store and all that its channels have accepted have in common, in every store that is reached: the parts of the
-- invariant of crate `promise`, each by its name.
use Prim.Native.Nat.{ℕ, suc, ◌+◌, ◌-◌, ◌*◌, ◌≤◌, ◌<◌}
use mathlib.Core.Path.{◌≡◌}
use mathlib.Core.List.{List, []}
use lib.ListN.{length}
use Rattle.schedule.specs.Feasible.{Table}
use Rattle.schedule.specs.Messages.{Message, Orderly}
use Rattle.schedule.specs.Network.{OnLinks}
use Rattle.store.specs.Layout.{Store, links_of, channels_of, clock_of, c_of, p_of, d_of, b_of, hops_of, route_of, delay_of, sent_of}
use Rattle.store.specs.Layout.{horizon_of, IsChannel}
use Rattle.folds.specs.Folds.{sum_to}
use Rattle.store.proofs.Laws.Sound.{Sound}
use Rattle.open_rules.specs.Search.{table_of}
use Rattle.promise_queue.specs.Queue.{time_at, end_after}
use Rattle.promise_view.specs.View.{plan_of, Accepted, traffic_of, Told}

-- the store is sound, its tables pass the test, and it tells of the messages that were accepted, which are in order; a channel
-- that was not opened has none
pub record Seen (w : Store) (all : Accepted) : Type 0 where
  pub sound : Sound w
  pub tables : (l : ℕ) → l < links_of w → Table (table_of w l)
  pub told : (x : ℕ) → IsChannel w x → Told w x (all x)
  pub orderly : (x : ℕ) → Orderly (c_of w x) (p_of w x) 0 0 (all x)
  pub none : (x : ℕ) → channels_of w ≤ x → all x ≡ []

-- J on every link
abbrev pub Steady : Store → Accepted → Type 0
Steady w all = OnLinks (plan_of w) (traffic_of w all) (clock_of w)

-- message n of a channel's, if a packet of it was sent on from place j to the next link: "the early packet .. if that is at most
-- present slot + horizon"
abbrev pub NearAt : Store → (x j n : ℕ) → List Message → Type 0
NearAt w x j n ms = suc j < hops_of w x → n < length ms → end_after ms n < sent_of w x j
    → time_at ms n + sum_to (delay_of w x) j < clock_of w + horizon_of w (route_of w x j)

abbrev pub Near : Store → Accepted → Type 0
Near w all = (x j n : ℕ) → IsChannel w x → NearAt w x j n (all x)

-- "logical time − present slot is at most (B − 1) × p"
abbrev pub InBurstAt : Store → (x n : ℕ) → List Message → Type 0
InBurstAt w x n ms = n < length ms → time_at ms n ≤ clock_of w + (b_of w x - 1) * p_of w x

abbrev pub InBurst : Store → Accepted → Type 0
InBurst w all = (x n : ℕ) → IsChannel w x → InBurstAt w x n (all x)

-- the delays along a route add up to at most D
abbrev pub WithinAt : Store → (x : ℕ) → Type 0
WithinAt w x = sum_to (delay_of w x) (hops_of w x) ≤ d_of w x

abbrev pub Within : Store → Type 0
Within w = (x : ℕ) → IsChannel w x → WithinAt w x
