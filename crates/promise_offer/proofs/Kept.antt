-- What an offer that has passed leaves as it was: all that set-up and opens have settled, and what has been sent at every place.
use Prim.Native.Nat.{ℕ, ◌<◌}
use mathlib.Core.Path.{◌≡◌}
use native.Mathlib.Omega.{arith}
use Rattle.store.specs.Layout.{Store, hops_of, sent_at, sent_of, IsChannel}
use Rattle.store.proofs.Laws.Sound.{Sound}
use Rattle.store.proofs.Laws.Few.{few_channels}
use Rattle.store_same.proofs.Settled.{Settled}
use Rattle.offer_rules.specs.Offer.{offered}
use Rattle.offer_keeps.proofs.Frame.{offered_frame, offered_settled}
use Rattle.promise_offer.proofs.Passed.{Passed}

module _ {w : Store} (sound : Sound w) {x packets : ℕ} (p : Passed w x packets) where
  pub offer_settled : Settled w (offered w x packets)
  offer_settled = offered_settled w x packets (few_channels sound x p.known)

  pub offer_sent : (y j : ℕ) → IsChannel w y → j < hops_of w y → sent_of (offered w x packets) y j ≡ sent_of w y j
  offer_sent y j h i =
      let k = (sound.channel y h).hops_most in
      offered_frame w x packets (sent_at y j) (λ e. omega arith) (λ e. omega arith) (λ e. omega arith)
