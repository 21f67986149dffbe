-- After an accepted offer packets that were sent on are as near as they were, and no logical time is further ahead than the burst
-- allows.
use Prim.Native.Nat.{ℕ, ◌≤◌}
use mathlib.Core.List.{[], ◌∷◌, ◌++◌}
use native.Mathlib.Omega.{arith}
use Rattle.store.specs.Layout.{Store, clock_of, IsChannel}
use Rattle.store_same.proofs.Settled.{network_same, channels_same}
use Rattle.store_same.proofs.Numbers.{SameNumbers, settled_numbers}
use Rattle.offer_rules.specs.Offer.{offered}
use Rattle.offer_keeps.proofs.Frame.{offered_clock}
use Rattle.promise_view.specs.View.{Accepted}
use Rattle.promise_view.proofs.Seen.{Seen, NearAt, Near, InBurstAt, InBurst, Within}
use Rattle.promise_view.proofs.Bounds.{burst_same, near_same}
use Rattle.promise_view.proofs.Settled.{within_kept}
use Rattle.promise_view.proofs.Counted.{sent_most}
use Rattle.promise_offer.proofs.Passed.{Passed, message, Adds}
use Rattle.promise_offer.proofs.Each.{each, on_channels}
use Rattle.promise_offer.proofs.Kept.{offer_settled, offer_sent}
use Rattle.promise_offer.proofs.Time.{time_most}

module _ {w : Store} {all : Accepted} (s : Seen w all) {x packets : ℕ} (p : Passed w x packets) where
  abbrev later : Store
  later = offered w x packets

  old_channel : (u : ℕ) → IsChannel later u → IsChannel w u
  old_channel u h = rw (channels_same (offer_settled s.sound p)) at h

  numbers : (u : ℕ) → IsChannel w u → SameNumbers w later u
  numbers = settled_numbers s.sound (offer_settled s.sound p)

  no_sooner : clock_of w ≤ clock_of later
  no_sooner = omega (arith, offered_clock w x packets)

  pub offer_within : Within w → Within later
  offer_within = within_kept (offer_settled s.sound p) s.sound

  module _ {all' : Accepted} (a : Adds w x packets all all') where
    pub offer_in_burst : InBurst w all → InBurst later all'
    offer_in_burst burst u n h =
        let i : IsChannel w u = old_channel u h in
        burst_same (numbers u i) no_sooner n (all' u) (on_channels a (λ y. InBurstAt w y n) own u (λ e. burst u n i))
      where
        own : InBurstAt w x n (all x ++ (message w x packets ∷ []))
        own l = each (all x) (message w x packets) n l
            (λ o. rw o.time (burst x n p.known o.inside))
            (λ o. rw o.time (time_most p))

    -- no packet of the new message has been sent
    own_near : Near w all → (j n : ℕ) → NearAt w x j n (all x ++ (message w x packets ∷ []))
    own_near near j n i l = each (all x) (message w x packets) n l
        (λ o. rw (o.time, o.start) (near x j n p.known i o.inside))
        (λ o g.
        let most = sent_most (s.sound.channel x p.known) (s.told x p.known) j (omega arith) in
        absurd (omega (arith, g, o.start)))

    pub offer_near : Near w all → Near later all'
    offer_near near u j n h =
        let i : IsChannel w u = old_channel u h in
        near_same (numbers u i) no_sooner s.sound (network_same (offer_settled s.sound p)) i j n (all' u)
        (offer_sent s.sound p u j i) (on_channels a (λ y. NearAt w y j n) (own_near near j n) u (λ e. near u j n i))
