-- A channel's messages and the counters that say how far they are. Its packets are numbered from 0 over all messages, in
-- the order in which they were accepted; `sent` is how many of them have been sent at a place.
use Rattle.std.specs.Prelude.{ℕ, ◌+◌, ◌-◌, ◌≤◌, ◌<◌, true, false, List, [], ◌∷◌, ltb}
use Rattle.schedule.specs.Link.{Head}
use Rattle.schedule.specs.Link.Head.{busy, free}

-- its logical time at the source, and the number of the packet after its last
pub record Message : Type 0 where
  pub time : ℕ
  pub end : ℕ

-- a message may come after packet number `base`, with no logical time before e: it has 1 to C packets
pub record Next (c e base : ℕ) (m : Message) : Type 0 where
  pub later : e ≤ m.time
  pub some : base < m.end
  pub most : m.end ≤ base + c

-- messages in order, at least p apart. (Those before them, if any, are wholly sent at every place.)
abbrev pub Orderly : (c p e base : ℕ) → List Message → Type 0
Orderly c p e base [] = Unit {0}
Orderly c p e base (m ∷ ms) = Next c e base m × Orderly c p (m.time + p) m.end ms

-- how many packets they reach to, and the earliest logical time that the next one can have
unfoldable pub ended : (base : ℕ) → List Message → ℕ
ended base [] = base
ended base (m ∷ ms) = ended m.end ms

unfoldable pub soonest : (p e : ℕ) → List Message → ℕ
soonest p e [] = e
soonest p e (m ∷ ms) = soonest p (m.time + p) ms

-- the head at a place whose logical times are `off` later than the source's: the first message that ends above `sent`
unfoldable pub head_at : (p off e sent : ℕ) → List Message → Head
head_at p off e sent [] = free (e + off)
head_at p off e sent (m ∷ ms) =
    elim (ltb sent m.end) [ true ↦ busy (m.time + off) (m.end - sent) | false ↦ head_at p off (m.time + p) sent ms ]
