-- What has happened on one channel: its packets, its sends, and what each link of its route holds.
use Rattle.std.specs.Prelude.{ℕ, zero, suc, ◌+◌, true, false, List, [], ◌∷◌, ◌++◌, eqb, length, take, drop}
use Rattle.store.specs.Layout.{number_at}
use Rattle.folds.specs.Folds.{sum_to}
use Rattle.open_rules.specs.Request.{Request, hops, link}
use Rattle.slot_rules.specs.Slot.{Send}
use Rattle.schedule.specs.Lists.{◌∈◌}
use Rattle.promise_queue.specs.Keep.{keep}
use Rattle.promise_sends.specs.Sends.{is_on}
use Rattle.promise.specs.Calls.{OpenAnswer, Event}
use Rattle.promise.specs.Calls.Event.{opened, accepted, sent}

-- a packet: its message and its number there, both from 0, and the logical time of the message at the source
pub record Packet : Type 0 where
  pub message : ℕ
  pub packet : ℕ
  pub logical : ℕ

abbrev pub name_of : Packet → ℕ × ℕ
name_of i = (i.message, i.packet)

-- the packets of one message
unfoldable pub packets_of : (message logical packets : ℕ) → List Packet
packets_of message logical zero = []
packets_of message logical (suc k) =
    packets_of message logical k ++ (record { message = message; packet = k; logical = logical } ∷ [])

-- all packets that were accepted on channel x, "message order, then packet order"
unfoldable pub packets_in : List Event → (x : ℕ) → List Packet
packets_in [] x = []
packets_in (accepted y message logical packets ∷ h) x =
    elim (eqb y x) [ true ↦ packets_of message logical packets ++ packets_in h x | false ↦ packets_in h x ]
packets_in (opened y q answer ∷ h) x = packets_in h x
packets_in (sent s ∷ h) x = packets_in h x

-- the logical times of the messages that were accepted on it
unfoldable pub times_in : List Event → (x : ℕ) → List ℕ
times_in [] x = []
times_in (accepted y message logical packets ∷ h) x = elim (eqb y x) [ true ↦ logical ∷ times_in h x | false ↦ times_in h x ]
times_in (opened y q answer ∷ h) x = times_in h x
times_in (sent s ∷ h) x = times_in h x

-- all sends; and those for channel x on link l
unfoldable pub sends_in : List Event → List Send
sends_in [] = []
sends_in (sent s ∷ h) = s ∷ sends_in h
sends_in (opened y q answer ∷ h) = sends_in h
sends_in (accepted y message logical packets ∷ h) = sends_in h

abbrev pub sends_on : List Event → (x l : ℕ) → List Send
sends_on h x l = keep (is_on x l) (sends_in h)

-- the open of channel x: what was asked for, and what was answered
pub record WasOpened (h : List Event) (x : ℕ) : Type 0 where
  pub request : Request
  pub answer : OpenAnswer
  pub there : opened x request answer ∈ h

-- Places j are those of the route that was asked for; there are `places`.
module _ {h : List Event} {x : ℕ} (o : WasOpened h x) where
  abbrev pub places : ℕ
  places = hops o.request

  abbrev pub link_at : (j : ℕ) → ℕ
  link_at j = link o.request j

  -- what was sent on the link at place j; what has come there: at the first place what was accepted, later what was sent on the
  -- link before, as many packets from the first on (`InOrder`, of the promise, says that they are these)
  abbrev pub sends_at : (j : ℕ) → List Send
  sends_at j = sends_on h x (link_at j)

  abbrev pub come_to : (j : ℕ) → List Packet
  come_to zero = packets_in h x
  come_to (suc j) = take (length (sends_at j)) (packets_in h x)

  -- what it holds: that, without what was sent there
  abbrev pub held_at : (j : ℕ) → List Packet
  held_at j = drop (length (sends_at j)) (come_to j)

  -- "on a channel's next link the logical time is that of the link before plus the delay there", and "deadline on a link: logical
  -- time + d"; `logical` is the time at the source
  abbrev pub logical_at : (j logical : ℕ) → ℕ
  logical_at j logical = logical + sum_to (number_at o.answer.delays) j

  abbrev pub deadline_at : (j logical : ℕ) → ℕ
  deadline_at j logical = logical_at j logical + number_at o.answer.delays j
