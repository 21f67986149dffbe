-- An accepted offer keeps J on every link.
use Prim.Native.Nat.{ℕ}
use mathlib.Core.Path.{◌≡◌}
use mathlib.Core.Logic.{◌⊎◌, inl, inr}
use native.Mathlib.Decide.{ℕ_discrete}
use Rattle.schedule.specs.Network.{Key, head, Inside, OnLinks, Offers}
use Rattle.schedule.proofs.Network.{offers_kept}
use Rattle.store.specs.Layout.{Store, clock_of}
use Rattle.offer_rules.specs.Offer.{offered}
use Rattle.offer_keeps.proofs.Frame.{offered_clock}
use Rattle.promise_view.specs.View.{plan_of, Accepted, traffic_of}
use Rattle.promise_view.proofs.Seen.{Seen, Steady}
use Rattle.promise_view.proofs.Places.{inside_is}
use Rattle.promise_view.proofs.Planned.{planned}
use Rattle.promise_view.proofs.Settled.{links_kept}
use Rattle.promise_view.proofs.Counted.{counted}
use Rattle.promise_offer.proofs.Passed.{Passed, message, Adds}
use Rattle.promise_offer.proofs.Kept.{offer_settled, offer_sent}
use Rattle.promise_offer.proofs.Time.{accepts}

module _ {w : Store} {all all' : Accepted} (s : Seen w all) {x packets : ℕ} (p : Passed w x packets)
    (a : Adds w x packets all all') where
  each : (y : ℕ) → (traffic_of w all' y ≡ traffic_of w all y) ⊎ Offers (plan_of w) (traffic_of w all) (traffic_of w all') (clock_of w) y
  each y = go (ℕ_discrete y x)
    where
      go : Dec (y ≡ x)
          → (traffic_of w all' y ≡ traffic_of w all y) ⊎ Offers (plan_of w) (traffic_of w all) (traffic_of w all') (clock_of w) y
      go (yes e) = rw e
          (inr (record { message = message w x packets; accepts = accepts (s.told x p.known) p; now = rw a.new }))
      go (no e) = inl (rw (a.same y e))

  -- nothing is sent
  heads : (k : Key) → Inside (plan_of w) k
      → head (plan_of w) (traffic_of (offered w x packets) all') k ≡ head (plan_of w) (traffic_of w all') k
  heads k i = let h : _ = inside_is w k i in rw (offer_sent s.sound p k.channel k.place h.0 h.1)

  pub offer_steady : Steady w all → Steady (offered w x packets) all'
  offer_steady on =
      let kept : OnLinks (plan_of w) (traffic_of w all') (clock_of w) =
      offers_kept (plan_of w) (planned s.sound s.tables) (traffic_of w all) (counted s) (clock_of w) on
      (traffic_of w all') each in
      rw (offered_clock w x packets)
      (links_kept (offer_settled s.sound p) s.sound (traffic_of w all') (traffic_of (offered w x packets) all') heads
      (clock_of w) kept)
