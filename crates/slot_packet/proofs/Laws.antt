-- Looking back from the last message for the one that a packet is of, and how large its logical time can be.
use Prim.Native.Nat.{ℕ, zero, suc, ◌+◌, ◌-◌, ◌*◌, ◌%◌, ◌≤◌, ◌<◌}
use mathlib.Core.Path.{◌≡◌, refl, sym, ◌∙◌}
use mathlib.Core.Bool.{true}
use native.Mathlib.Numerals.{unary_clauses}
use native.Mathlib.Omega.{arith}
use borrow.Author.Tests.{le-leb, lt-leb, ltb-true}
use Rattle.kinds.specs.Ranges.{most_hops, most_p, most_number}
use Rattle.store.specs.Layout.{Store, ring, place_before, hops_of, delay_of, sent_of, time_of, end_of, IsChannel}
use Rattle.folds.specs.Folds.{sum_to}
use Rattle.store.specs.Amounts.{entered_of}
use Rattle.store.specs.Ranged.{SmallDelays}
use Rattle.store.specs.Sound.{sound_of}
use Rattle.store.proofs.Laws.Ring.{ring_time, ring_end, ring_back}
use Rattle.store.proofs.Laws.Sound.{ChannelIs, sound_is, offset_most, small_delays}
use Rattle.slot_rules.specs.Head.{message_with, message_of, logical_of, is_held}
use Rattle.slot_rules.proofs.Laws.Head.{message_is}
use Rattle.slot_packet.specs.declared.Found.{Found}

-- One step back: message n, with `left` more that may be looked at.
module _ (w : Store) (x u : ℕ) where
  message_none : (n left : ℕ) → 0 < left → n ≡ 0 → message_with w x u n left ≡ n
  unfolding message_with
  message_none n zero h z = absurd (omega arith)
  message_none zero (suc left) h z = refl
  message_none (suc n) (suc left) h z = absurd (omega arith)

  message_last : (n left : ℕ) → left ≤ 0 → message_with w x u n left ≡ n
  unfolding message_with
  message_last n zero h = refl
  message_last n (suc left) h = absurd (omega arith)

  message_here : (n left e : ℕ) → 0 < left → (n ≡ 0 → ⊥) → e ≡ end_of w x (n - 1) → e ≤ u → message_with w x u n left ≡ n
  unfolding message_with
  message_here n zero e h z f l = absurd (omega arith)
  message_here zero (suc left) e h z f l = absurd (z refl)
  message_here (suc n) (suc left) e h z f l =
      let m : end_of w x n ≤ u = simp unary_clauses at (rw f at l) in
      rw (le-leb (end_of w x n) u m, message_with)

  message_back : (n left e : ℕ) → 0 < left → (n ≡ 0 → ⊥) → e ≡ end_of w x (n - 1) → u < e
      → message_with w x u n left ≡ message_with w x u (n - 1) (left - 1)
  unfolding message_with
  message_back n zero e h z f l = absurd (omega arith)
  message_back zero (suc left) e h z f l = absurd (z refl)
  message_back (suc n) (suc left) e h z f l =
      let m : u < end_of w x n = simp unary_clauses at (rw f at l) in
      simp unary_clauses (rw (lt-leb (end_of w x n) u m, message_with))

-- A loop back over the messages, `seen` of them so far: message n stands at place `at` of the ring, and what is left decides.
pub record Looking (w : Store) (x j u n at seen : ℕ) : Type 0 where
  pub place : at ≡ n % ring
  pub same : message_of w x j ≡ message_with w x u n (ring - 1 - seen)

module _ {w : Store} {x j u n at seen : ℕ} (o : Looking w x j u n at seen) where
  -- what was found, number and place
  found_is : n ≡ message_of w x j
      → ◌≡◌ {A = Found} (record { number = n; place = at }) (record { number = message_of w x j; place = message_of w x j % ring })
  found_is e = rw (o.place, e)

  pub found_last : ring - 1 ≤ seen
      → ◌≡◌ {A = Found} (record { number = n; place = at }) (record { number = message_of w x j; place = message_of w x j % ring })
  found_last h = found_is (sym (o.same ∙ message_last w x u n (ring - 1 - seen) (omega arith)))

  pub found_none : seen < ring - 1 → n ≡ 0
      → ◌≡◌ {A = Found} (record { number = n; place = at }) (record { number = message_of w x j; place = message_of w x j % ring })
  found_none h z = found_is (sym (o.same ∙ message_none w x u n (ring - 1 - seen) (omega arith) z))

  module _ (h : seen < ring - 1) (z : n ≡ 0 → ⊥) {b e : ℕ} (p : b ≡ place_before at) (f : e ≡ end_of w x b) where
    place_back : b ≡ (n - 1) % ring
    place_back = p ∙ ring_back n at o.place z

    end_back : e ≡ end_of w x (n - 1)
    end_back = f ∙ ring_end (n - 1) b place_back w x

    pub found_here : e ≤ u
        → ◌≡◌ {A = Found} (record { number = n; place = at }) (record { number = message_of w x j; place = message_of w x j % ring })
    found_here l = found_is (sym (o.same ∙ message_here w x u n (ring - 1 - seen) e (omega arith) z end_back l))

    pub looking_back : u < e → Looking w x j u (n - 1) b (seen + 1)
    looking_back l =
        let k : ring - 1 - seen - 1 ≡ ring - 1 - (seen + 1) = omega arith in
        record { place = place_back; same = rw k at (o.same ∙ message_back w x u n (ring - 1 - seen) e (omega arith) z end_back l) }

-- Place j of the route of a sound channel: a logical time there is far from 2 ^ 64.
module _ (w : Store) (e : sound_of w ≡ true) (x j : ℕ) (h : IsChannel w x) (l : j < hops_of w x) where
  k : ChannelIs w x
  k = (sound_is w e).channel x h

  pub delays_small : SmallDelays w x j
  delays_small = small_delays k j (omega arith)

  pub logical_most : is_held w x j ≡ true → logical_of w x j ≤ most_number + most_p * most_hops
  logical_most f =
      let i : sent_of w x j < entered_of w x j = ltb-true _ _ f in
      let few : j < most_hops = omega (arith, k.hops_most) in
      omega (arith, (message_is k j l i).time_most, offset_most w x j delays_small few)

-- as it was read
pub logical_is : (w : Store) (x j : ℕ) (found : Found) (t o : ℕ)
    → found ≡ record { number = message_of w x j; place = message_of w x j % ring } → t ≡ time_of w x found.place
    → o ≡ sum_to (delay_of w x) j → t + o ≡ logical_of w x j
logical_is w x j found t o a b d =
    rw (b, d, ring_time (message_of w x j) found.place (rw a) w x)
