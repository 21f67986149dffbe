-- A channel on its route, and how far its messages are.
use Rattle.std.specs.Prelude.{ℕ, zero, suc, ◌+◌, ◌≤◌, ◌<◌, ◌≡◌, ◌⊎◌, List, [], ◌∷◌, ◌++◌}
use Rattle.response.specs.declared.Row.{Row}
use Rattle.schedule.specs.Link.{Head}
use Rattle.schedule.specs.Messages.{Message, Next, Orderly, ended, soonest, head_at}

-- what its open has settled: C, p, the number of links, and at each place of the route, from 0, its link and its delay
pub record Channel : Type 0 where
  pub c : ℕ
  pub p : ℕ
  pub hops : ℕ
  pub link : ℕ → ℕ
  pub delay : ℕ → ℕ

-- what offers and slots change: its messages, with the earliest logical time and the packet number that they go on from,
-- and how many packets have been sent at each place
pub record Course : Type 0 where
  pub first : ℕ
  pub base : ℕ
  pub messages : List Message
  pub sent : ℕ → ℕ

abbrev pub row_at : Channel → ℕ → Row
row_at ch j = record { c = ch.c; p = ch.p; delay = ch.delay j }

-- "On a channel's next link the logical time is that of the link before plus the delay there"
unfoldable pub offset : Channel → ℕ → ℕ
offset ch zero = 0
offset ch (suc j) = offset ch j + ch.delay j

abbrev pub head_of : Channel → Course → ℕ → Head
head_of ch now j = head_at ch.p (offset ch j) now.first (now.sent j) now.messages

-- how many packets have come to a place: to the first all that were accepted, to another all that the place before sent
unfoldable pub entered : Course → ℕ → ℕ
entered now zero = ended now.base now.messages
entered now (suc j) = now.sent j

-- the link there holds a packet
abbrev pub Held : Course → ℕ → Type 0
Held now j = now.sent j < entered now j

-- messages are in order, those before them are sent at every place, and no place has sent more than has come to it
pub record Counted (ch : Channel) (now : Course) : Type 0 where
  pub orderly : Orderly ch.c ch.p now.first now.base now.messages
  pub forgot : (j : ℕ) → j < ch.hops → now.base ≤ now.sent j
  pub flows : (j : ℕ) → j < ch.hops → now.sent j ≤ entered now j

-- What happens to a course: packets are sent; a message is accepted.
abbrev pub sending : Course → (ℕ → ℕ) → Course
sending now sent = record { first = now.first; base = now.base; messages = now.messages; sent = sent }

abbrev pub accepting : Course → Message → Course
accepting now m = record { first = now.first; base = now.base; messages = now.messages ++ (m ∷ []); sent = now.sent }

-- a packet that place j holds is sent: the new count is one more
pub record Sends (now : Course) (sent : ℕ → ℕ) (j : ℕ) : Type 0 where
  pub held : Held now j
  pub one : sent j ≡ suc (now.sent j)

-- in a slot a place sends a packet that it holds, or none
abbrev pub Steps : Course → (ℕ → ℕ) → ℕ → Type 0
Steps now sent j = (sent j ≡ now.sent j) ⊎ Sends now sent j

-- the rule of an offer at t, whatever the burst: "Its logical time is the larger of the present slot and the channel's
-- last logical time plus p", or later; it has 1 to C packets
pub record Accepts (ch : Channel) (now : Course) (t : ℕ) (m : Message) : Type 0 where
  pub present : t ≤ m.time
  pub next : Next ch.c (soonest ch.p now.first now.messages) (ended now.base now.messages) m
