-- A packet on its way, computed from the definitions.
use mathlib.Core.Path.{◌≡◌, refl}
use lib.ListN.{replicate}
use Rattle.store.specs.Layout.{Store, sent_of, with_links, with_channels, with_horizon, with_rows, with_row_place, with_c, with_p, with_b}
use Rattle.store.specs.Layout.{with_hops, with_messages, with_route, with_delay, with_time, with_end}
use Rattle.folds.specs.Folds.{sum_to}
use Rattle.store.specs.Amounts.{entered_of}
use Rattle.slot_rules.specs.Head.{message_with}
use Rattle.slot_rules.specs.Pick.{best_of, pick_of}
use Rattle.slot_rules.specs.Slot.{moved_to, moved}

-- a store in which channel 0 has C 1, p 10 and B 2
spaced : Store
spaced = with_b (with_p (with_c (with_channels (replicate 2_000 0) 1) 0 1) 0 10) 0 2

-- Channel 0 goes over links 0 and 1, with delay 1 on each and a message of one packet at 0. Both links send up to 4 slots early.
two_links_lem : Store
two_links_lem =
    with_row_place (with_rows (with_horizon (with_rows (with_horizon (with_links on_route 2) 0 4) 0 1) 1 4) 1 1) 1 0 1
  where
    spoken : Store
    spoken = with_end (with_time (with_messages spaced 0 1) 0 1 0) 0 1 1

    on_route : Store
    on_route = with_delay (with_delay (with_route (with_hops spoken 0 2) 0 1 1) 0 0 1) 0 1 1

-- "A packet sent in slot s stands at the next node from slot s + 1": link 0 sends it, and link 1 does not send it in the same
-- slot, though it would be within the horizon there.
sent_once : sent_of (moved two_links_lem) 0 0 ≡ 1
unfolding spaced two_links_lem moved moved_to pick_of best_of message_with entered_of sum_to
sent_once = refl

stands_next : sent_of (moved two_links_lem) 0 1 ≡ 0
unfolding spaced two_links_lem moved moved_to pick_of best_of message_with entered_of sum_to
stands_next = refl

-- and in the slot after it does
sent_next : sent_of (moved (moved two_links_lem)) 0 1 ≡ 1
unfolding spaced two_links_lem moved moved_to pick_of best_of message_with entered_of sum_to
sent_next = refl
