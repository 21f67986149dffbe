-- The loop that moves the picked packets on: the store has changed, but not what is read for the next link.
use Prim.Native.Nat.{ℕ, suc, ◌+◌, ◌≤◌, ◌<◌}
use mathlib.Core.Path.{◌≡◌, refl, ◌∙◌}
use mathlib.Core.Bool.{true}
use native.Mathlib.Numerals.{add-one}
use native.Mathlib.Omega.{arith}
use Rattle.kinds.specs.Ranges.{most_links, most_rows, most_channels, most_hops}
use Rattle.store.specs.Layout.{Store, Long, row_channel_at, row_place_at, links_of, clock_of, row_channel_of, row_place_of, sent_of}
use Rattle.store.specs.Layout.{with_clock}
use Rattle.store.specs.Sound.{sound_of}
use Rattle.store.proofs.Laws.Sound.{Sound, sound_is}
use Rattle.slot_rules.specs.Pick.{pick_of}
use Rattle.slot_rules.specs.Slot.{move_from, moved_to, moved}
use Rattle.slot_keeps.proofs.To.{to_length}
use Rattle.slot_keeps.proofs.After.{to_frame, to_stays}
use Rattle.slot_move.specs.Sends.{most_packets}
use Rattle.slot_rules.proofs.Laws.Ready.{link_small, channel_small, place_small}
use Rattle.slot_move.proofs.Rows.{pick_few, row_leaves, sent_few}

-- the packets of the first l links have moved on
pub moving_none : (w : Store) → w ≡ moved_to w 0
unfolding moved_to
moving_none w = refl

module _ (w : Store) (sound : sound_of w ≡ true) (l : ℕ) (store : Store) (same : store ≡ moved_to w l) where
  s : Sound w
  s = sound_is w sound

  pub moving_long : Long store
  moving_long = rw (same, to_length w l) s.long

  pub moving_done : l ≡ links_of w → {slot : ℕ} → slot ≡ clock_of w → with_clock store (slot + 1) ≡ moved w
  unfolding moved
  moving_done e f = rw (f, same, e)

  -- a link that sends nothing
  pub moving_pass : pick_of w l ≡ 0 → store ≡ moved_to w (l + 1)
  unfolding moved_to
  moving_pass e = rw (add-one l, moved_to, e) same

  -- and one that sends the packet of its row k
  module _ (h : l < links_of w) (k : ℕ) (e : pick_of w l ≡ suc k) where
    few : (l < most_links) × (k < most_rows)
    few = (link_small w sound l h, omega (arith, pick_few w sound l h))

    channel_there : row_channel_of store l k ≡ row_channel_of w l k
    channel_there =
        rw same (to_frame s l (row_channel_at l k) (omega arith) (λ x j a b f. omega (arith, few)))

    place_there : row_place_of store l k ≡ row_place_of w l k
    place_there =
        rw same (to_frame s l (row_place_at l k) (omega arith) (λ x j a b f. omega (arith, few)))

    sent_there : sent_of store (row_channel_of w l k) (row_place_of w l k) ≡ sent_of w (row_channel_of w l k) (row_place_of w l k)
    sent_there =
        let leaves = row_leaves w sound l h k e in
        rw same
        (to_stays s _ _ leaves.stands.channel leaves.stands.place l (omega arith) (λ f g. absurd (omega (arith, leaves.stands.here))))

    pub moving_channel : row_channel_of store l k < most_channels
    moving_channel = rw channel_there (channel_small w sound _ (row_leaves w sound l h k e).stands.channel)

    pub moving_place : row_place_of store l k < most_hops
    moving_place =
        let t = (row_leaves w sound l h k e).stands in
        rw place_there (place_small w sound _ _ t.channel t.place)

    pub moving_sent : sent_of store (row_channel_of store l k) (row_place_of store l k) ≤ most_packets
    moving_sent = rw (channel_there, place_there, sent_there) (sent_few w sound l h k e)

    pub moving_more : {later : Store} → later ≡ move_from store l (suc k) store → later ≡ moved_to w (l + 1)
    unfolding moved_to
    moving_more put = put ∙ rw (channel_there, place_there, sent_there, add-one l, moved_to, e, same)
