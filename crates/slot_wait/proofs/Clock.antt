-- A store whose clock alone was changed: everything else in it is as before, and it is as sound as it was.
use Prim.Native.Nat.{ℕ, zero, suc, ◌+◌, ◌-◌, ◌≤◌}
use mathlib.Core.Path.{◌≡◌, refl}
use mathlib.Core.Bool.{Bool, true, false}
use native.Mathlib.Omega.{arith}
use lib.Dec.{leb}
use lib.Seq.{set-get_or}
use Rattle.kinds.specs.Ranges.{end_slot}
use Rattle.store.specs.Layout.{Store, Long, ring, number_at, with_clock, clock_at, links_at, horizon_at, rows_at, row_channel_at}
use Rattle.store.specs.Layout.{row_place_at, messages_at, delay_at, sent_at, time_at, end_at, clock_of, links_of, horizon_of, rows_of}
use Rattle.store.specs.Layout.{row_channel_of, row_place_of, messages_of, delay_of, sent_of, time_of, end_of, IsChannel}
use Rattle.store.specs.Amounts.{entered_of}
use Rattle.store.specs.Sound.{sound_of}
use Rattle.folds.proofs.Folds.{sum_same}
use Rattle.store.proofs.Laws.Layout.{written, beside, as_long}
use Rattle.store.proofs.Laws.Sound.{CourseIs, Sound, sound_is, is_sound, held_most}
use Rattle.slot_rules.specs.Head.{message_with, message_of, logical_of, is_held}
use Rattle.slot_rules.specs.Pick.{row_held, row_logical}
use Rattle.store_same.proofs.Same.{SameRecord, channel_same, held_same}
use Rattle.store_same.proofs.Settled.{Settled, network_same, settled_sound}

-- a clock that is set to what it was
pub clock_stays : (w : Store) (n : ℕ) → n ≡ 0 → with_clock w (clock_of w + n) ≡ w
clock_stays w n e =
    let s : clock_of w + n ≡ clock_of w = omega arith in
    rw s (set-get_or w clock_at 0)

module _ (w : Store) (t : ℕ) where
  pub clock_set : Long w → clock_of (with_clock w t) ≡ t
  clock_set h = written w clock_at t (omega arith)

  number_same : (at : ℕ) → (at ≡ clock_at → ⊥) → number_at (with_clock w t) at ≡ number_at w at
  number_same = beside w clock_at t

  pub links_same : links_of (with_clock w t) ≡ links_of w
  links_same = number_same links_at (λ e. omega arith)

  -- of a link, and of a channel
  module _ (l : ℕ) where
    pub horizon_same : horizon_of (with_clock w t) l ≡ horizon_of w l
    horizon_same = number_same (horizon_at l) (λ e. omega arith)

    pub rows_same : rows_of (with_clock w t) l ≡ rows_of w l
    rows_same = number_same (rows_at l) (λ e. omega arith)

    row_channel_same : (k : ℕ) → row_channel_of (with_clock w t) l k ≡ row_channel_of w l k
    row_channel_same k = number_same (row_channel_at l k) (λ e. omega arith)

    row_place_same : (k : ℕ) → row_place_of (with_clock w t) l k ≡ row_place_of w l k
    row_place_same k = number_same (row_place_at l k) (λ e. omega arith)

  module _ (x : ℕ) where
    messages_same : messages_of (with_clock w t) x ≡ messages_of w x
    messages_same = number_same (messages_at x) (λ e. omega arith)

    delay_same : (j : ℕ) → delay_of (with_clock w t) x j ≡ delay_of w x j
    delay_same j = number_same (delay_at x j) (λ e. omega arith)

    sent_same : (j : ℕ) → sent_of (with_clock w t) x j ≡ sent_of w x j
    sent_same j = number_same (sent_at x j) (λ e. omega arith)

    time_same : (n : ℕ) → time_of (with_clock w t) x n ≡ time_of w x n
    time_same n = number_same (time_at x n) (λ e. omega arith)

    end_same : (n : ℕ) → end_of (with_clock w t) x n ≡ end_of w x n
    end_same n = number_same (end_at x n) (λ e. omega arith)

    -- what goes next at a place
    entered_same : (j : ℕ) → entered_of (with_clock w t) x j ≡ entered_of w x j
    unfolding entered_of
    entered_same zero = rw messages_same (end_same (messages_of w x))
    entered_same (suc j) = sent_same j

    message_with_same : (u n kept : ℕ) → message_with (with_clock w t) x u n kept ≡ message_with w x u n kept
    unfolding message_with
    message_with_same u n zero = refl
    message_with_same u zero (suc kept) = refl
    message_with_same u (suc n) (suc kept) = go (leb (end_of w x n) u) refl (message_with_same u n kept)
      where
        go : (b : Bool) → leb (end_of w x n) u ≡ b → message_with (with_clock w t) x u n kept ≡ message_with w x u n kept
            → message_with (with_clock w t) x u (suc n) (suc kept) ≡ message_with w x u (suc n) (suc kept)
        go true e r = rw (end_same n, e, message_with)
        go false e r = rw (end_same n, e, message_with) r

    message_same : (j : ℕ) → message_of (with_clock w t) x j ≡ message_of w x j
    message_same j = rw (sent_same j, messages_same) (message_with_same (sent_of w x j) (messages_of w x) (ring - 1))

    is_held_same : (j : ℕ) → is_held (with_clock w t) x j ≡ is_held w x j
    is_held_same j = rw (sent_same j, entered_same j)

    logical_same : (j : ℕ) → logical_of (with_clock w t) x j ≡ logical_of w x j
    logical_same j =
        rw (message_same j, time_same (message_of w x j))
        (rw (sum_same (delay_of (with_clock w t) x) (delay_of w x) j (λ i h. delay_same i)))

  -- and of a row
  pub row_held_same : (l k : ℕ) → row_held (with_clock w t) l k ≡ row_held w l k
  row_held_same l k = rw (row_channel_same l k, row_place_same l k) (is_held_same (row_channel_of w l k) (row_place_of w l k))

  pub row_logical_same : (l k : ℕ) → row_logical (with_clock w t) l k ≡ row_logical w l k
  row_logical_same l k =
      rw (row_channel_same l k, row_place_same l k) (logical_same (row_channel_of w l k) (row_place_of w l k))

  pub clock_settled : Settled w (with_clock w t)
  clock_settled = record { as_long = as_long w clock_at t; frame = λ at other _ _. number_same at other }

  record_same : (x : ℕ) → SameRecord w (with_clock w t) x
  record_same x = record { number = λ at a b. number_same at (λ e. omega arith) }

pub clock_sound : (w : Store) (t : ℕ) → sound_of w ≡ true → t ≤ end_slot → sound_of (with_clock w t) ≡ true
clock_sound w t e h =
    is_sound (with_clock w t)
    (settled_sound (clock_settled w t) s (rw (clock_set w t s.long) h) course
    (λ x j i k. rw (held_same (record_same w t x) j (omega (arith, (s.channel x i).hops_most))) (held_most s x j i k)))
  where
    s : Sound w
    s = sound_is w e

    course : (x : ℕ) → IsChannel w x → CourseIs (with_clock w t) x
    course x i =
        (channel_same (record_same w t x) (network_same (clock_settled w t)) s.counts.links_most (s.channel x i)).course
