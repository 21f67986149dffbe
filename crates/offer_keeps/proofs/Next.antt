-- An accepted offer does not change what goes next at a place of the channel: where a packet is held, it is one of the same
-- message.
use Prim.Native.Nat.{ℕ, ◌-◌, ◌<◌}
use mathlib.Core.Path.{◌≡◌, ◌∙◌, sym}
use mathlib.Core.Bool.{true}
use native.Mathlib.Numerals.{add-one}
use native.Mathlib.Omega.{arith}
use Rattle.kinds.specs.Ranges.{most_channels}
use Rattle.store.specs.Layout.{Store, Long, ring, hops_of, messages_of, sent_of, end_of}
use Rattle.store.specs.Amounts.{accepted_of, entered_of}
use Rattle.store.specs.Sound.{in_order}
use Rattle.store.proofs.Laws.Sound.{ChannelIs}
use Rattle.slot_rules.specs.Head.{message_with, message_of}
use Rattle.offer_rules.specs.Offer.{offered}
use Rattle.slot_rules.proofs.Laws.Ends.{message_same, message_before, message_kept}
use Rattle.slot_rules.proofs.Laws.Head.{sent_least, entered_most}
use Rattle.offer_keeps.proofs.Frame.{offered_messages}
use Rattle.offer_keeps.proofs.Order.{sent_kept, end_kept}

-- `order` is what an offer looks at before it is accepted (`takes_message`)
module _ (w : Store) (x packets : ℕ) (few : x < most_channels) (long : Long w) (k : ChannelIs w x)
    (order : in_order w x (messages_of w x) (ring - 2) ≡ true) (j : ℕ) (h : j < hops_of w x)
    (held : sent_of w x j < entered_of w x j) where
  abbrev later : Store
  later = offered w x packets

  abbrev n : ℕ
  n = messages_of w x

  abbrev i : ℕ
  i = sent_of w x j

  accepted : i < accepted_of w x
  accepted = omega (arith, entered_most k j h)

  sent : sent_of later x j ≡ i
  sent = sent_kept w x packets j (omega (arith, k.hops_most))

  -- among one message fewer
  fewer : message_with w x i n (ring - 2) ≡ message_of w x j
  fewer = sym (message_kept w x i n (ring - 2) (sent_least k j h) order accepted)

  pub message_stays : message_of later x j ≡ message_of w x j
  message_stays =
      let last : i < end_of later x n = rw (end_kept w x packets n (omega arith) (omega arith)) accepted in
      rw (sent, offered_messages w x packets few long, add-one n)
      (message_before later x i n (ring - 2) last
      ∙ (message_same w later x i n (ring - 2) (λ m a b. end_kept w x packets m (omega arith) (omega arith)) ∙ fewer))
