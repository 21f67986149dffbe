-- What a sound store gives to code that works with channel x: bounds that no sum passes.
use Rattle.std.proofs.Common.{ℕ, ◌*◌, ◌≤◌, ◌≡◌, true, arith}
use native.Mathlib.Nat.{mul-le-mul}
use mir.Syntax.{w64}
use mir.Val.{Fits}
use Rattle.kinds.specs.Ranges.{most_c, most_p, most_b, most_number}
use Rattle.store.specs.Layout.{Store, c_of, p_of, b_of, hops_of, messages_of, sent_of, time_of, IsChannel}
use Rattle.store.specs.Amounts.{accepted_of, entered_of, held_of}
use Rattle.store.specs.Ranged.{Ranged}
use Rattle.store.specs.Sound.{sound_of}
use Rattle.store.proofs.Laws.Sound.{ChannelIs, sound_is, sound_fit, fit_ranged}
use Rattle.slot_rules.proofs.Laws.Head.{entered_most}
use Rattle.slot_rules.proofs.Laws.Ready.{ready, sent_most}

module _ (w : Store) (sound : sound_of w ≡ true) (x : ℕ) (h : IsChannel w x) where
  channel : ChannelIs w x
  channel = (sound_is w sound).channel x h

  pub hops_some : 1 ≤ hops_of w x
  hops_some = channel.hops_least

  pub c_most : c_of w x ≤ most_c
  c_most = channel.good.c_most

  pub p_most : p_of w x ≤ most_p
  p_most = channel.good.p_most

  pub b_some : 1 ≤ b_of w x
  b_some = channel.good.b_least

  pub messages_most : messages_of w x ≤ most_number
  messages_most = channel.course.messages_most

  pub last_most : 1 ≤ messages_of w x → time_of w x (messages_of w x) ≤ most_number
  last_most some = omega (arith, channel.course.time_most (omega arith))

  pub accepted_small : accepted_of w x ≤ most_c * most_number
  accepted_small =
      omega (arith, channel.course.accepted_most, mul-le-mul channel.good.c_most channel.course.messages_most)

  pub held_small : held_of w x 0 ≤ most_c * most_number
  held_small = omega (arith, accepted_small, entered_most channel 0 channel.hops_least)

  pub first_flows : sent_of w x 0 ≤ entered_of w x 0
  first_flows = sent_most w sound x 0 h hops_some

  pub channel_ranged : Ranged w x
  channel_ranged = fit_ranged w (sound_fit w sound) x h

  pub b_most : b_of w x ≤ most_b
  b_most = channel.good.b_most

  pub burst_fits : {b p : ℕ} → b ≤ most_b → p ≡ p_of w x → Fits w64 (b * p)
  burst_fits {p = p} l e =
      let m : p ≤ most_p = rw e p_most in
      record { fits = omega (arith, mul-le-mul l m) }

pub ruleset offer_ready = (ready, hops_some, c_most, p_most, b_some, messages_most, last_most, accepted_small, held_small, first_flows, channel_ranged)
