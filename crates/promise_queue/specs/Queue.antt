-- All messages that a channel has accepted, from the first on, and their packets. Messages and a message's packets are counted
-- from 0; a channel's packets are numbered from 0 over all its messages.
use Rattle.std.specs.Prelude.{ℕ, zero, suc, ◌-◌, true, false, List, [], ◌∷◌, ◌++◌, leb, take}
use Rattle.schedule.specs.Messages.{Message, ended}

-- the logical time of message n
unfoldable pub time_at : List Message → (n : ℕ) → ℕ
time_at [] n = 0
time_at (m ∷ ms) zero = m.time
time_at (m ∷ ms) (suc n) = time_at ms n

-- how many packets the first n messages have
abbrev pub end_after : List Message → (n : ℕ) → ℕ
end_after ms n = ended 0 (take n ms)

-- how many messages from the first on are wholly among the first x packets
unfoldable pub passed : (x : ℕ) → List Message → ℕ
passed x [] = 0
passed x (m ∷ ms) = elim (leb m.end x) [ true ↦ suc (passed x ms) | false ↦ 0 ]

-- a packet by its message and its number in it
abbrev pub Packet : Type 0
Packet = ℕ × ℕ

-- the packets of message n, which has k
unfoldable pub packets_of : (n k : ℕ) → List Packet
packets_of n zero = []
packets_of n (suc k) = packets_of n k ++ ((n, k) ∷ [])

-- the packets of all messages, of which the first has number n and starts at packet `base`: "message order, then packet order"
unfoldable pub packets_from : (n base : ℕ) → List Message → List Packet
packets_from n base [] = []
packets_from n base (m ∷ ms) = packets_of n (m.end - base) ++ packets_from (suc n) m.end ms
