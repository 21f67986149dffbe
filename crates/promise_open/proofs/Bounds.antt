-- After an accepted open the logical times are in the bounds that they were in, and the delays along each route add up to at most
-- D.
use Prim.Native.Nat.{ℕ, ◌≤◌, ◌<◌}
use mathlib.Core.Path.{◌≡◌}
use mathlib.Core.List.{[]}
use native.Mathlib.Omega.{arith}
use lib.ListN.{length}
use Rattle.std.specs.declared.result.Result.TheVariants.{Ok}
use Rattle.schedule.specs.Messages.{Message}
use Rattle.store.specs.Layout.{Store, channels_of, clock_of, IsChannel}
use Rattle.folds.proofs.Folds.{sum_same}
use Rattle.store.proofs.Laws.Few.{few_places}
use Rattle.store_same.proofs.Same.{sent_same}
use Rattle.store_same.proofs.Numbers.{SameNumbers}
use Rattle.open_rules.specs.Request.{Request, hops}
use Rattle.open_rules.specs.Refusal.{delays_of}
use Rattle.open_rules.specs.Open.{open_outcome, open_store}
use Rattle.open_rules.proofs.Laws.Facts.{Late}
use Rattle.open_rules.proofs.Laws.Delays.{delays_fit}
use Rattle.open_keeps.proofs.Kept.{Opened, clock_kept, record_kept, network_kept}
use Rattle.open_keeps.proofs.Each.{each_channel}
use Rattle.open.proofs.Laws.{accepted_late}
use Rattle.promise_view.specs.View.{Accepted as AllAccepted}
use Rattle.promise_view.proofs.Seen.{Seen, NearAt, Near, InBurstAt, InBurst, WithinAt, Within}
use Rattle.promise_view.proofs.Bounds.{within_same, burst_same, near_same}
use Rattle.promise_open.proofs.Granted.{open_kept, open_numbers}

module _ {w : Store} {all : AllAccepted} (s : Seen w all) (q : Request) (n : ℕ) (a : open_outcome w q ≡ Ok n) where
  abbrev w' : Store
  w' = open_store w q

  kept : Opened w w' q (delays_of w q)
  kept = open_kept q n a

  numbers : (x : ℕ) → IsChannel w x → SameNumbers w w' x
  numbers = open_numbers q n a

  later : clock_of w ≤ clock_of w'
  later = omega (arith, clock_kept kept)

  -- the new channel has no message
  no_message : (m : ℕ) → m < length (all (channels_of w)) → ⊥
  no_message m h =
      let e : all (channels_of w) ≡ [] = s.none (channels_of w) (omega arith) in
      let i : m < length {A = Message} [] = rw e at h in
      omega arith

  pub open_in_burst : InBurst w all → InBurst w' all
  open_in_burst b x m =
      each_channel kept (λ x. InBurstAt w' x m (all x)) (λ x h. burst_same (numbers x h) later m (all x) (b x m h))
      (λ i. absurd (no_message m i)) x

  pub open_near : Near w all → Near w' all
  open_near near x j m =
      each_channel kept (λ x. NearAt w' x j m (all x)) old (λ i k. absurd (no_message m k)) x
    where
      old : (x : ℕ) → IsChannel w x → NearAt w' x j m (all x)
      old x h = near_same (numbers x h) later s.sound (network_kept kept) h j m (all x)
          (λ i. sent_same (record_kept kept x h) j (few_places s.sound x j h i)) (near x j m h)

  pub open_within : Within w → Within w'
  open_within within =
      each_channel kept (WithinAt w') (λ x h. within_same (numbers x h) (within x h)) new
    where
      new : WithinAt w' (channels_of w)
      new =
          let late : Late w q = accepted_late w q n a in
          rw (kept.after.hops_is, kept.after.d_is, sum_same _ _ (hops q) kept.after.delay_is)
          (delays_fit w q kept.early late.responds late.total)
