-- The store that a slot leaves is sound exactly if each picked packet has room at the next place of its route.
use Prim.Native.Nat.{ℕ, zero, suc, ◌+◌, ◌-◌, ◌≤◌, ◌<◌}
use mathlib.Core.Path.{◌≡◌, refl}
use mathlib.Core.Bool.{Bool, true, false, ◌||◌}
use mathlib.Core.Logic.{inl, inr}
use native.Mathlib.Numerals.{add-one}
use native.Mathlib.Omega.{arith}
use lib.Dec.{leb}
use borrow.Author.Tests.{leb-false, lt-leb}
use Rattle.kinds.specs.Ranges.{end_slot}
use Rattle.store.specs.Layout.{Store, links_of, clock_of, row_channel_of, row_place_of, hops_of, route_of, sent_of, IsChannel}
use Rattle.folds.specs.Folds.{every}
use Rattle.store.specs.Amounts.{reserved_of, accepted_of, entered_of, held_of}
use Rattle.store.specs.Sound.{sound_of}
use Rattle.folds.proofs.Folds.{one_test, every_at, every_true}
use Rattle.store.proofs.Laws.Sound.{Sound, sound_is, is_sound, held_most}
use Rattle.store_same.proofs.Settled.{reserved_kept, hops_kept, channels_same, settled_sound}
use Rattle.slot_rules.specs.Pick.{pick_of}
use Rattle.slot_rules.specs.Slot.{moved}
use Rattle.slot_keeps.specs.Room.{leaves, takes_packet, room_from, room_after}
use Rattle.slot_keeps.proofs.TakesPacket.{RoomIs, room_is, is_room}
use Rattle.store.proofs.Laws.Few.{few_channels}
use Rattle.slot_keeps.proofs.Leaves.{leaving, row_leaving}
use Rattle.slot_keeps.proofs.After.{moved_settled, accepted_after, clock_after, sent_goes, sent_stays, sent_rises}
use Rattle.slot_keeps.proofs.Course.{course}

-- what is held at the first place, and at a later one
held_first : (w : Store) (x : ℕ) → held_of w x 0 ≡ accepted_of w x - sent_of w x 0
unfolding entered_of
held_first w x = refl

held_later : (w : Store) (x j : ℕ) → held_of w x (suc j) ≡ sent_of w x j - sent_of w x (suc j)
unfolding entered_of
held_later w x j = refl

flows_later : (w : Store) (x j : ℕ) → sent_of w x (suc j) ≤ entered_of w x (suc j) → sent_of w x (suc j) ≤ sent_of w x j
unfolding entered_of
flows_later w x j h = h

module _ {w : Store} (s : Sound w) where
  module _ (rooms : (l : ℕ) → l < links_of w → room_after w l ≡ true) where
    -- at the place after one where a packet leaves
    room_next : (x j : ℕ) → IsChannel w x → suc j < hops_of w x → leaves w x j ≡ true → RoomIs w x (suc j)
    room_next x j h i e =
        let k : j < hops_of w x = omega arith in
        let r = row_leaving s x j h k e in
        room_is w x (suc j)
        (rw (r.picks, room_from, r.channel, r.place, add-one j, lt-leb (hops_of w x) (suc j) i) at
        (rooms (route_of w x j) ((s.channel x h).route.known j k)))

    held_after : (x j : ℕ) → IsChannel w x → j < hops_of w x → held_of (moved w) x j ≤ reserved_of w x j
    held_after x zero h i =
        let a = held_most s x zero h i in
        let b = accepted_after s x (few_channels s x h) in
        rw (held_first (moved w) x) (omega (arith, held_first w x, sent_rises s x zero h i))
    held_after x (suc j) h i = rw (held_later (moved w) x j) (go (leaves w x j) refl)
      where
        k : j < hops_of w x
        k = omega arith

        old : sent_of w x j - sent_of w x (suc j) ≤ reserved_of w x (suc j)
        old = rw (held_later w x j) at (held_most s x (suc j) h i)

        come : leaves w x j ≡ true → RoomIs w x (suc j)
            → sent_of (moved w) x j - sent_of (moved w) x (suc j) ≤ reserved_of w x (suc j)
        come e (inl f) = omega (arith, held_later w x j, sent_goes s x j h k e, sent_rises s x (suc j) h i)
        come e (inr f) = omega (arith, old, sent_goes s x j h k e, sent_goes s x (suc j) h i f)

        go : (b : Bool) → leaves w x j ≡ b → sent_of (moved w) x j - sent_of (moved w) x (suc j) ≤ reserved_of w x (suc j)
        go false e = omega (arith, old, sent_stays s x j h k e, sent_rises s x (suc j) h i)
        go true e = come e (room_next x j h i e)

    pub rooms_sound : clock_of w < end_slot → Sound (moved w)
    rooms_sound h = settled_sound (moved_settled s) s (omega (arith, clock_after s)) (course s) held_after

  -- and back: a packet that leaves has room
  module _ (t : Sound (moved w)) where
    held_within : (x j : ℕ) → IsChannel w x → j < hops_of w x → held_of (moved w) x j ≤ reserved_of w x j
    held_within x j h i =
        rw (reserved_kept (moved_settled s) s x h j i) at
        (held_most t x j (rw (channels_same (moved_settled s)) h) (rw (hops_kept (moved_settled s) x (few_channels s x h)) i))

    -- else one more would be held there than is reserved
    room_found : (x j : ℕ) → IsChannel w x → suc j < hops_of w x → leaves w x j ≡ true → (b : Bool) → leaves w x (suc j) ≡ b
        → RoomIs w x (suc j)
    room_found x j h i e true f = inr f
    room_found x j h i e false f =
        let k : j < hops_of w x = omega arith in
        let m = rw (held_later (moved w) x j) at (held_within x (suc j) h i) in
        let n = flows_later w x j ((s.channel x h).course.flows (suc j) i) in
        inl (rw (held_later w x j) (omega (arith, sent_goes s x j h k e, sent_stays s x (suc j) h i f)))

    pub sound_rooms : (l : ℕ) → l < links_of w → room_after w l ≡ true
    sound_rooms l h = go (pick_of w l) refl
      where
        go : (p : ℕ) → pick_of w l ≡ p → room_from w l p ≡ true
        go zero e = refl
        go (suc k) e = last (leb (hops_of w x) (suc j)) refl
          where
            x : ℕ
            x = row_channel_of w l k

            j : ℕ
            j = row_place_of w l k

            last : (b : Bool) → leb (hops_of w x) (suc j) ≡ b → (leb (hops_of w x) (j + 1) || takes_packet w x (j + 1)) ≡ true
            last true f = rw (add-one j, f)
            last false f =
                let g = leaving s l k h e in
                rw (add-one j, f)
                (is_room w x (suc j) (room_found x j g.stands.channel (leb-false (hops_of w x) (suc j) f) g.goes _ refl))

pub moved_sound : (w : Store) → sound_of w ≡ true → clock_of w < end_slot → sound_of (moved w) ≡ every (room_after w) (links_of w)
moved_sound w sound h =
    let s = sound_is w sound in
    one_test (sound_of (moved w)) (every (room_after w) (links_of w))
    (λ e. every_true (room_after w) (links_of w) (sound_rooms s (sound_is (moved w) e)))
    (λ e. is_sound (moved w) (rooms_sound s (every_at (room_after w) (links_of w) e) h))
