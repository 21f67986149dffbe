-- "Within a channel: message order, then packet order": which packet goes next at a place after one has left it.
use Prim.Native.Nat.{ℕ, ◌+◌, ◌-◌, ◌≤◌, ◌<◌}
use mathlib.Core.Path.{◌≡◌}
use mathlib.Core.Logic.{◌⊎◌, inl, inr}
use mathlib.Core.Bool.{true}
use native.Mathlib.Omega.{arith}
use Rattle.kinds.specs.Ranges.{most_number}
use Rattle.store.specs.Layout.{Store, ring, hops_of, messages_of, sent_of, end_of, IsChannel}
use Rattle.store.specs.Amounts.{accepted_of, delivered_of, entered_of}
use Rattle.store.proofs.Laws.Sound.{ChannelIs, Sound, last_most}
use Rattle.store_same.proofs.Settled.{channel_kept, hops_kept}
use Rattle.slot_rules.specs.Head.{message_with, message_of, packet_of}
use Rattle.slot_rules.specs.Slot.{moved}
use Rattle.slot_rules.proofs.Laws.Head.{MessageIs, message_found, message_is, sent_least, entered_most}
use Rattle.slot_rules.proofs.Laws.Ends.{message_same}
use Rattle.slot_rules.proofs.Laws.Next.{NextIs, message_next}
use Rattle.slot_keeps.specs.Room.{leaves}
use Rattle.store.proofs.Laws.Few.{few_channels}
use Rattle.slot_keeps.proofs.Leaves.{leaving_held}
use Rattle.slot_keeps.proofs.After.{moved_settled, messages_after, end_after_lem, accepted_after, sent_goes}
use Rattle.slot_keeps.proofs.Course.{course}

-- how many packets message r has
abbrev pub packets_of : Store → (x r : ℕ) → ℕ
packets_of w x r = end_of w x r - end_of w x (r - 1)

-- the next packet of the same message, which has one
pub record SameMessage (w w' : Store) (x j : ℕ) : Type 0 where
  pub message : message_of w' x j ≡ message_of w x j
  pub packet : packet_of w' x j ≡ packet_of w x j + 1
  pub inside : packet_of w x j + 1 < packets_of w x (message_of w x j)

-- the first packet of the next message, after the last one of its own
pub record NextMessage (w w' : Store) (x j : ℕ) : Type 0 where
  pub message : message_of w' x j ≡ message_of w x j + 1
  pub packet : packet_of w' x j ≡ 0
  pub last : packet_of w x j + 1 ≡ packets_of w x (message_of w x j)

module _ {w : Store} (s : Sound w) (x j : ℕ) (h : IsChannel w x) (i : j < hops_of w x) where
  -- the message of packet u after the slot, and before it
  message_kept : (u : ℕ)
      → message_with (moved w) x u (messages_of (moved w) x) (ring - 1) ≡ message_with w x u (messages_of w x) (ring - 1)
  message_kept u =
      let few = few_channels s x h in
      rw (messages_after s x few) (message_same w (moved w) x u (messages_of w x) (ring - 1) (λ m a b. end_after_lem s x few m))

  -- where one leaves, and another is held then
  pub next_in_order : leaves w x j ≡ true → sent_of (moved w) x j < entered_of (moved w) x j
      → SameMessage w (moved w) x j ⊎ NextMessage w (moved w) x j
  next_in_order e held = go (message_next w x u past (messages_of w x) (ring - 1) k.course.order more)
    where
      k : ChannelIs w x
      k = s.channel x h

      u : ℕ
      u = sent_of w x j

      sent : sent_of (moved w) x j ≡ sent_of w x j + 1
      sent = sent_goes s x j h i e

      past : delivered_of w x ≤ u
      past = sent_least k j i

      more : u + 1 < accepted_of w x
      more =
          let l : ChannelIs (moved w) x = channel_kept (moved_settled s) s x h (course s x h) in
          let m = entered_most l j (rw (hops_kept (moved_settled s) x (few_channels s x h)) i) in
          omega (arith, sent, accepted_after s x (few_channels s x h))

      r' : ℕ
      r' = message_with w x (u + 1) (messages_of w x) (ring - 1)

      now : MessageIs w x u (messages_of w x) (ring - 1) most_number (message_of w x j)
      now = message_is k j i (leaving_held s x j h i e)

      next : MessageIs w x (u + 1) (messages_of w x) (ring - 1) most_number r'
      next =
          message_found w x (u + 1) (omega (arith, past)) (messages_of w x) (ring - 1) most_number k.course.order more
          (last_most k (omega (arith, more)))

      message : message_of (moved w) x j ≡ r'
      message = rw sent (message_kept (u + 1))

      packet : packet_of (moved w) x j ≡ u + 1 - end_of w x (r' - 1)
      packet = rw (message, sent, end_after_lem s x (few_channels s x h) (r' - 1))

      go : NextIs w x u (message_of w x j) r' → SameMessage w (moved w) x j ⊎ NextMessage w (moved w) x j
      go (inl a) = inl (record {
        message = rw message a;
        packet = rw (packet, a) (omega (arith, now.starts));
        inside = omega (arith, rw a at next.ends, now.starts);
      })
      go (inr a) = inr (record {
        message = rw message a.0;
        packet = let b : message_of w x j + 1 - 1 ≡ message_of w x j = omega arith in rw (packet, a.0, b) (omega (arith, a.1));
        last = omega (arith, a.1, now.starts);
      })
