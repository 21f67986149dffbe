-- The row k that link l picked: its place can be read, and the packet that goes next there is one of a message.
use Rattle.std.proofs.Common.{ℕ, zero, suc, ◌-◌, ◌≤◌, ◌<◌, ◌≡◌, true, refl, arith, get_or, List}
use native.Mathlib.Nat.{mul-le-mul}
use Rattle.std.specs.declared.option.Option.{Option}
use Rattle.std.specs.declared.option.Option.TheVariants.{None, Some}
use Rattle.kinds.specs.Ranges.{most_rows, most_hops, most_number}
use Rattle.store.specs.Layout.{Store, IsChannel, ring, links_of, row_channel_of, row_place_of, messages_of, sent_of, end_of}
use Rattle.store.specs.Sound.{sound_of}
use Rattle.store.proofs.Laws.Sound.{ChannelIs, sound_is}
use Rattle.slot_rules.specs.Head.{message_of}
use Rattle.slot_rules.specs.Pick.{pick_of, row_of}
use Rattle.slot_rules.proofs.Laws.Head.{MessageIs, message_is, entered_most}
use Rattle.slot_rules.proofs.Laws.Pick.{picked}
use Rattle.slot_rules.proofs.Laws.Ready.{ready, links_few, row_small, place_small}
use Rattle.slot_pick.specs.Picks.{Picks}
use Rattle.slot_pick.proofs.Laws.{picks_at}
use Rattle.slot_keeps.proofs.Leaves.{Leaving, leaving}
use Rattle.slot_move.specs.Sends.{most_packets}

-- the position of a row picked, and of none
pub no_row : {p : ℕ} → None ≡ row_of p → p ≡ 0
no_row {p = zero} e = refl
no_row {p = suc k} e = absurd cc

pub a_row : {p k : ℕ} → Some k ≡ row_of p → p ≡ suc k
a_row {p = zero} e = absurd cc
a_row {p = suc i} e = cc

-- what the array of picks says of link l
pub picks_say : {w : Store} {picks : List (Option ℕ)} → Picks w picks → (l : ℕ) (d : Option ℕ) → l < links_of w
    → get_or picks l d ≡ row_of (pick_of w l)
picks_say {w = w} k l d h = rw k.all (picks_at w (links_of w) l d h (links_few w k.sound))

pub pick_few : (w : Store) → sound_of w ≡ true → (l : ℕ) → l < links_of w → pick_of w l ≤ most_rows
pick_few w sound l h = go (pick_of w l) refl
  where
    go : (p : ℕ) → pick_of w l ≡ p → p ≤ most_rows
    go zero e = omega arith
    go (suc k) e = omega (arith, row_small w sound l k h (picked w l k e).0)

module _ (w : Store) (sound : sound_of w ≡ true) (l : ℕ) (h : l < links_of w) (k : ℕ) (e : pick_of w l ≡ suc k) where
  abbrev x : ℕ
  x = row_channel_of w l k

  abbrev j : ℕ
  j = row_place_of w l k

  pub row_leaves : Leaving w l x j
  row_leaves = leaving (sound_is w sound) l k h e

  pub channel_there : IsChannel w (row_channel_of w l k)
  channel_there = row_leaves.stands.channel

  pub place_few : row_place_of w l k < most_hops
  place_few = place_small w sound x j row_leaves.stands.channel row_leaves.stands.place

  kept : ChannelIs w x
  kept = (sound_is w sound).channel x row_leaves.stands.channel

  message : MessageIs w x (sent_of w x j) (messages_of w x) (ring - 1) most_number (message_of w x j)
  message = message_is kept j row_leaves.stands.place row_leaves.held

  pub message_least : 1 ≤ message_of w x j
  message_least = message.least

  pub message_starts : end_of w x (message_of w x j - 1) ≤ sent_of w x j
  message_starts = message.starts

  pub sent_few : sent_of w x j ≤ most_packets
  sent_few = omega (
    arith,
    row_leaves.held,
    entered_most kept j row_leaves.stands.place,
    kept.course.accepted_most,
    mul-le-mul kept.good.c_most kept.course.messages_most,
  )

-- what reading a picked row, and the packet that goes next there, asks
pub ruleset row_ready = (ready, pick_few, channel_there, place_few, message_least, message_starts)
