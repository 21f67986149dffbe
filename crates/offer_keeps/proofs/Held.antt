-- What is held: in a sound store never more than is reserved, and after an accepted offer the message's packets more, at the
-- first place of the channel's route alone.
use Prim.Native.Nat.{ℕ, suc, ◌+◌, ◌<◌}
use mathlib.Core.Path.{◌≡◌}
use native.Mathlib.Omega.{arith}
use Rattle.kinds.specs.Ranges.{most_hops, most_channels}
use Rattle.store.specs.Layout.{Store, Long, hops_of}
use Rattle.store.specs.Amounts.{accepted_of, entered_of, held_of}
use Rattle.store.proofs.Laws.Sound.{ChannelIs}
use Rattle.offer_rules.specs.Offer.{offered}
use Rattle.offer_keeps.proofs.Frame.{offered_messages, offered_end}
use Rattle.offer_keeps.proofs.Order.{sent_kept}

module _ (w : Store) (x packets : ℕ) (h : x < most_channels) (long : Long w) (k : ChannelIs w x) where
  pub accepted_new : accepted_of (offered w x packets) x ≡ accepted_of w x + packets
  accepted_new = rw (offered_messages w x packets h long) (offered_end w x packets h long)

  pub held_new : held_of (offered w x packets) x 0 ≡ held_of w x 0 + packets
  unfolding entered_of
  held_new =
      let f = k.course.flows 0 k.hops_least in
      rw (accepted_new, sent_kept w x packets 0 (omega arith)) (omega arith)

  pub held_later : (j : ℕ) → suc j < hops_of w x → held_of (offered w x packets) x (suc j) ≡ held_of w x (suc j)
  unfolding entered_of
  held_later j i =
      let m : suc j < most_hops = omega (arith, k.hops_most) in
      rw (sent_kept w x packets j (omega arith), sent_kept w x packets (suc j) m)
