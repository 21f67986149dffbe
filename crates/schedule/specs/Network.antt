-- All links together: a plan, which is what opens have settled, and the course of each channel.
use Rattle.std.specs.Prelude.{ℕ, ◌<◌, ◌≡◌, List, map}
use Rattle.response.specs.declared.Row.{Row}
use Rattle.schedule.specs.Feasible.{Table}
use Rattle.schedule.specs.Lists.{◌∈◌}
use Rattle.schedule.specs.Link.{Head, J, Earliest, Idle}
use Rattle.schedule.specs.Messages.{Message}
use Rattle.schedule.specs.Channel.{Channel, Course, row_at, head_of, Held, Counted, Accepts, Sends, Steps, sending, accepting}

-- a channel at one place of its route
pub record Key : Type 0 where
  pub channel : ℕ
  pub place : ℕ

-- the channels, and each link's rows, highest first
pub record Plan : Type 0 where
  pub channel : ℕ → Channel
  pub rows : ℕ → List Key

abbrev pub Traffic : Type 0
Traffic = ℕ → Course

-- the link of the key holds a packet of its channel
abbrev pub HeldAt : Traffic → Key → Type 0
HeldAt s k = Held (s k.channel) k.place

module _ (plan : Plan) where
  abbrev pub row : Key → Row
  row k = row_at (plan.channel k.channel) k.place

  abbrev pub head : Traffic → Key → Head
  head s k = head_of (plan.channel k.channel) (s k.channel) k.place

  -- the key's place is one of the channel's route
  abbrev pub Inside : Key → Type 0
  Inside k = k.place < (plan.channel k.channel).hops

  -- every link's table passes the test, each place of a route is a row of its link, and each row a place of a route
  pub record Planned : Type 0 where
    pub tables : (l : ℕ) → Table (map row (plan.rows l))
    pub routed : (k : Key) → Inside k → k ∈ plan.rows ((plan.channel k.channel).link k.place)
    pub placed : (l : ℕ) (k : Key) → k ∈ plan.rows l → Inside k

  -- the counters of every channel are in order
  abbrev pub AllCounted : Traffic → Type 0
  AllCounted s = (ch : ℕ) → Counted (plan.channel ch) (s ch)

  -- the invariant of every link
  abbrev pub OnLinks : Traffic → ℕ → Type 0
  OnLinks s t = (l : ℕ) → J row (head s) (plan.rows l) t

-- One slot at t: what has been sent becomes `sent`.
module _ (plan : Plan) (s : Traffic) (t : ℕ) (sent : ℕ → ℕ → ℕ) where
  -- a link sends a packet whose deadline is at most that of any current one that it holds; or it holds no current one
  pub data Picks (l : ℕ) : Type 0 where
    sends : (k : Key) → k ∈ plan.rows l → Sends (s k.channel) (sent k.channel) k.place
        → Earliest (row plan) (HeldAt s) (plan.rows l) t (head plan s) k → Picks l
    rests : Idle (row plan) (HeldAt s) (plan.rows l) t (head plan s) → Picks l

  -- each place of each route sends a packet that it holds or none, and each link picks by the rule
  pub record Step : Type 0 where
    pub steps : (k : Key) → Inside plan k → Steps (s k.channel) (sent k.channel) k.place
    pub picks : (l : ℕ) → Picks l

-- the traffic one slot later
abbrev pub stepped : Traffic → (ℕ → ℕ → ℕ) → Traffic
stepped s sent ch = sending (s ch) (sent ch)

-- between slots, from s to s': a message is accepted at t
pub record Offers (plan : Plan) (s s' : Traffic) (t ch : ℕ) : Type 0 where
  pub message : Message
  pub accepts : Accepts (plan.channel ch) (s ch) t message
  pub now : s' ch ≡ accepting (s ch) message
