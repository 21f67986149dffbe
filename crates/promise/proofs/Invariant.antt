-- The invariant of reached stores: what holds of a store and of all that has happened. Set-up makes it, every call keeps it.
use Prim.Native.Nat.{ℕ, suc, ◌+◌, ◌<◌}
use mathlib.Core.Path.{◌≡◌}
use mathlib.Core.List.Memᴰ
use mathlib.Core.List.{List, ◌++◌, map}
use lib.ListN.{length}
use Rattle.schedule.specs.Lists.{Every, ◌∈◌}
use Rattle.schedule.specs.Messages.{Message}
use Rattle.store.specs.Layout.{Store, IsChannel}
use Rattle.promise_queue.specs.Queue.{time_at, end_after, packets_from}
use Rattle.promise_view.specs.View.{Accepted}
use Rattle.promise_view.proofs.Seen.{Seen, Steady, Near, InBurst, Within}
use Rattle.promise_sends.specs.Log.{Logged}
use Rattle.promise.specs.Calls.{Event}
use Rattle.promise.specs.Happened.{Packet, name_of, packets_in, sends_in, WasOpened}
use Rattle.promise.specs.Promise.{AsSetUp, AsOpened}
use Rattle.promise.specs.Calls.Event.{opened, accepted, sent}
use Rattle.promise.proofs.History.{messages_in}
use Rattle.promise.proofs.Packets.{every_in}

-- an accepted message is one of its channel's
pub record IsMessage (w : Store) (all : Accepted) (x message logical packets : ℕ) : Type 0 where
  pub channel : IsChannel w x
  pub inside : message < length (all x)
  pub time : time_at (all x) message ≡ logical
  pub size : end_after (all x) (suc message) ≡ end_after (all x) message + packets

-- what the store says of an event
abbrev pub EventIs : (w : Store) (all : Accepted) → Event → Type 0
EventIs w all (opened x q answer) = AsOpened w x q answer
EventIs w all (accepted x message logical packets) = IsMessage w all x message logical packets
EventIs w all (sent y) = Unit {0}

-- a packet's message is one of these, and has that logical time
abbrev pub Timed : List Message → Packet → Type 0
Timed ms y = (y.message < length ms) × (y.logical ≡ time_at ms y.message)

pub record Invariant (links : List ℕ) (w : Store) (h : List Event) : Type 0 where
  -- the network is the one that was set up
  pub network : AsSetUp links w
  -- the store is sound, every link's rows are feasible, and the store tells of the messages that were accepted
  pub seen : Seen w (messages_in h)
  -- J for every link
  pub steady : Steady w (messages_in h)
  -- packets that were sent on are within the horizon, and the source's times within the burst
  pub near : Near w (messages_in h)
  pub burst : InBurst w (messages_in h)
  -- the delays of a channel are within D
  pub within : Within w
  -- what was sent on each link is the channel's packets in order, each in time
  pub logged : Logged w (messages_in h) (sends_in h)
  -- what has happened, channel by channel and event by event
  pub names : (x : ℕ) → map name_of (packets_in h x) ≡ packets_from 0 0 (messages_in h x)
  pub logicals : (x : ℕ) → Every (Timed (messages_in h x)) (packets_in h x)
  pub events : Every (EventIs w (messages_in h)) h
  pub known : (x : ℕ) → IsChannel w x → WasOpened h x

-- what has happened has happened
pub still_opened : (h more : List Event) (x : ℕ) → WasOpened h x → WasOpened (h ++ more) x
still_opened h more x o = record { request = o.request; answer = o.answer; there = Memᴰ.append_left more o.there }

-- what the store says of a thing that has happened
module _ {links : List ℕ} {w : Store} {h : List Event} (i : Invariant links w h) (x : ℕ) where
  pub as_opened : (o : WasOpened h x) → AsOpened w x o.request o.answer
  as_opened o = every_in _ h i.events _ o.there

  pub is_message_lem : (message logical packets : ℕ) → accepted x message logical packets ∈ h
      → IsMessage w (messages_in h) x message logical packets
  is_message_lem message logical packets m = every_in _ h i.events _ m
