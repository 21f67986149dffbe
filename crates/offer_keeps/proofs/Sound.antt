-- The store that an accepted offer leaves is sound exactly where there is room.
use Prim.Native.Nat.{ℕ, zero, suc, ◌+◌, ◌-◌, ◌*◌, ◌≤◌, ◌<◌}
use mathlib.Core.Path.{◌≡◌, sym, ◌∙◌}
use mathlib.Core.Bool.{true, ◌&&◌, and-eq-true_iff}
use native.Mathlib.Decide.{ℕ_discrete}
use native.Mathlib.Nat.{mul-le-mul}
use native.Mathlib.Omega.{arith}
use lib.Dec.{leb}
use borrow.Author.Tests.{leb-true, le-leb}
use Rattle.kinds.specs.Ranges.{most_channels, most_hops, most_b, most_number, end_slot, is_number}
use Rattle.store.specs.Layout.{Store, ring, clock_of, c_of, p_of, b_of, hops_of, messages_of, delay_of, IsChannel}
use Rattle.folds.specs.Folds.{sum_to}
use Rattle.store.specs.Amounts.{reserved_of, entered_of, held_of}
use Rattle.store.specs.Sound.{in_order, sound_of}
use Rattle.folds.proofs.Folds.{one_test}
use Rattle.store.proofs.Laws.Sound.{both, CourseIs, ChannelIs, Sound, sound_is, is_sound, held_most, offset_most}
use Rattle.store.proofs.Laws.Sound.{small_delays}
use Rattle.store_same.proofs.Same.{channel_same, held_same}
use Rattle.store_same.proofs.Settled.{Settled, network_same, channels_same, c_kept, hops_kept, reserved_kept, offset_kept}
use Rattle.store_same.proofs.Settled.{settled_sound}
use Rattle.offer_rules.specs.Offer.{offer_time, in_burst, offered}
use Rattle.offer_keeps.specs.Room.{takes_message}
use Rattle.offer_keeps.proofs.Frame.{offered_clock, offered_other, offered_settled, offered_messages, offered_time}
use Rattle.offer_keeps.proofs.Order.{sent_kept, order_new}
use Rattle.offer_keeps.proofs.Held.{accepted_new, held_new, held_later}

module _ (w : Store) (x packets : ℕ) (sound : sound_of w ≡ true) (clock : clock_of w < end_slot) (h : IsChannel w x)
    (least : 1 ≤ packets) (most : packets ≤ c_of w x) (burst : in_burst w x ≡ true) where
  abbrev later : Store
  later = offered w x packets

  abbrev n : ℕ
  n = messages_of w x

  s : Sound w
  s = sound_is w sound

  k : ChannelIs w x
  k = s.channel x h

  few : x < most_channels
  few = omega (arith, s.counts.channels_most)

  settled : Settled w later
  settled = offered_settled w x packets few

  -- "logical time − present slot is at most (B − 1) × p"; and up to the last link there are at most 7 delays
  time_small : offer_time w x + sum_to (delay_of w x) (hops_of w x - 1) ≤ most_number
  time_small =
      let b : b_of w x - 1 ≤ most_b - 1 = omega (arith, k.good.b_most) in
      let j : hops_of w x - 1 < most_hops = omega (arith, k.hops_least, k.hops_most) in
      omega (
        arith,
        leb-true (offer_time w x - clock_of w) ((b_of w x - 1) * p_of w x) burst,
        mul-le-mul b k.good.p_most,
        offset_most w x (hops_of w x - 1) (small_delays k (hops_of w x - 1) (omega arith)) j,
      )

  order_is : in_order later x (n + 1) (ring - 1) ≡ in_order w x n (ring - 2)
  order_is = order_new w x packets few s.long k least most

  module _ (room : takes_message w x packets ≡ true) where
    counted : (is_number (n + 1) ≡ true) × ((in_order w x n (ring - 2) && leb (held_of w x 0 + packets) (reserved_of w x 0)) ≡ true)
    counted = (and-eq-true_iff (is_number (n + 1)) _).0 room

    kept : (in_order w x n (ring - 2) ≡ true) × (leb (held_of w x 0 + packets) (reserved_of w x 0) ≡ true)
    kept = (and-eq-true_iff (in_order w x n (ring - 2)) _).0 counted.1

    flows : (j : ℕ) → j < hops_of w x → j < most_hops → entered_of w x j ≤ entered_of later x j
    unfolding entered_of
    flows zero i m = omega (arith, accepted_new w x packets few s.long k)
    flows (suc j) i m = omega (arith, sent_kept w x packets j (omega arith))

    own_course : CourseIs later x
    own_course = record {
      flows = λ j i.
          let l : j < hops_of w x = rw (hops_kept settled x few) at i in
          let m : j < most_hops = omega (arith, k.hops_most) in
          omega (arith, k.course.flows j l, flows j l m, sent_kept w x packets j m);
      messages_most = rw (offered_messages w x packets few s.long) (leb-true (n + 1) most_number counted.0);
      time_most = λ _.
          rw (offered_messages w x packets few s.long, offered_time w x packets few s.long, offset_kept settled s x h)
          time_small;
      accepted_most =
          rw (accepted_new w x packets few s.long k, c_kept settled x few, offered_messages w x packets few s.long)
          (omega (arith, k.course.accepted_most));
      order = rw (offered_messages w x packets few s.long) (order_is ∙ kept.0);
    }

    course : (y : ℕ) → IsChannel w y → CourseIs later y
    course y i = go (ℕ_discrete y x)
      where
        go : Dec (y ≡ x) → CourseIs later y
        go (yes e) = rw e own_course
        go (no e) =
            let same = offered_other w x packets y e in
            (channel_same same (network_same settled) s.counts.links_most (s.channel y i)).course

    held : (y j : ℕ) → IsChannel w y → j < hops_of w y → held_of later y j ≤ reserved_of w y j
    held y j i l = go (ℕ_discrete y x) j l
      where
        go : Dec (y ≡ x) → (j : ℕ) → j < hops_of w y → held_of later y j ≤ reserved_of w y j
        go (yes e) zero l =
            rw (e, held_new w x packets few s.long k) (leb-true (held_of w x 0 + packets) (reserved_of w x 0) kept.1)
        go (yes e) (suc j) l =
            let m : suc j < hops_of w x = rw e at l in
            rw (e, held_later w x packets few s.long k j m) (held_most s x (suc j) h m)
        go (no e) j l =
            rw (held_same (offered_other w x packets y e) j (omega (arith, (s.channel y i).hops_most))) (held_most s y j i l)

    sound_after : sound_of later ≡ true
    sound_after =
        is_sound later (settled_sound settled s (rw (offered_clock w x packets) s.counts.clock_most) course held)

  room_before : sound_of later ≡ true → takes_message w x packets ≡ true
  room_before e =
      let t = sound_is later e in
      let i : IsChannel later x = rw (channels_same settled) h in
      let o = t.channel x i in
      let f = held_most t x 0 i o.hops_least in
      let g : held_of w x 0 + packets ≤ reserved_of w x 0 =
      rw (held_new w x packets few s.long k, reserved_kept settled s x h 0 k.hops_least) at f in
      both _ _ (le-leb (n + 1) most_number (rw (offered_messages w x packets few s.long) at o.course.messages_most))
      (both _ _ (sym order_is ∙ (rw (offered_messages w x packets few s.long) at o.course.order))
      (le-leb (held_of w x 0 + packets) (reserved_of w x 0) g))

  -- The second 17 of an offer: what the code looks at is whether the store after it is sound.
  pub offered_sound : sound_of (offered w x packets) ≡ takes_message w x packets
  offered_sound = one_test _ _ room_before sound_after
