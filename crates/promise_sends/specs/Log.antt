-- All sends of all slots so far, in the order of the slots: the log of a store. On each link of a channel's route they are the
-- channel's packets from the first on, "message order, then packet order", and each was sent before its deadline there.
use Rattle.std.specs.Prelude.{ℕ, suc, ◌+◌, ◌<◌, ◌≡◌, List, map, length, take}
use Rattle.schedule.specs.Lists.{Every}
use Rattle.store.specs.Layout.{Store, hops_of, route_of, delay_of, sent_of, IsChannel}
use Rattle.folds.specs.Folds.{sum_to}
use Rattle.slot_rules.specs.Slot.{Send}
use Rattle.promise_queue.specs.Queue.{time_at, packets_from}
use Rattle.promise_queue.specs.Keep.{keep}
use Rattle.promise_view.specs.View.{Accepted}
use Rattle.promise_sends.specs.Sends.{is_on, name_of}

-- a packet of a message that its channel has accepted, sent before its deadline on that link: the message's logical time and the
-- delays up to there
pub record InTime (w : Store) (all : Accepted) (s : Send) : Type 0 where
  pub known : IsChannel w s.channel
  pub told : s.message < length (all s.channel)
  pub due : (j : ℕ) → j < hops_of w s.channel → route_of w s.channel j ≡ s.link
      → s.slot < time_at (all s.channel) s.message + sum_to (delay_of w s.channel) (suc j)

pub record Logged (w : Store) (all : Accepted) (log : List Send) : Type 0 where
  pub names : (x j : ℕ) → IsChannel w x → j < hops_of w x
      → map name_of (keep (is_on x (route_of w x j)) log) ≡ take (sent_of w x j) (packets_from 0 0 (all x))
  pub timely : Every (InTime w all) log
