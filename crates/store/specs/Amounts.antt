-- What a channel has on a link of its route: document 01, "Opening" (reserved packets) and "A slot". A packet is never
-- moved. A channel's packets are numbered over all its messages, and each place of the route has a count of those sent.
use Rattle.std.specs.Prelude.{ℕ, zero, suc, ◌+◌, ◌-◌, ◌*◌, ◌/◌}
use Rattle.store.specs.Layout.{Store, b_of, c_of, p_of, hops_of, messages_of, route_of, delay_of, sent_of, end_of, horizon_of}

-- "Reserved packets: on the first link B × C. On a later link C × (1 + (h + d' + d − 2) / p), quotient rounded down, with h and
-- d' the horizon and delay of the link before": a later link, and place j of a route, which is given by the link and the delay
-- at each place
abbrev pub later_reserved : (c p h d' d : ℕ) → ℕ
later_reserved c p h d' d = c * (1 + (h + d' + d - 2) / p)

unfoldable pub reserved_along : Store → (c p b : ℕ) → (route delays : ℕ → ℕ) → (j : ℕ) → ℕ
reserved_along w c p b route delays zero = b * c
reserved_along w c p b route delays (suc j) = later_reserved c p (horizon_of w (route j)) (delays j) (delays (suc j))

-- for channel x
unfoldable pub reserved_of : Store → (x j : ℕ) → ℕ
reserved_of w x j = reserved_along w (c_of w x) (p_of w x) (b_of w x) (route_of w x) (delay_of w x) j

-- all packets accepted so far, and those delivered: sent on the last link of the route
abbrev pub accepted_of : Store → (x : ℕ) → ℕ
accepted_of w x = end_of w x (messages_of w x)

abbrev pub delivered_of : Store → (x : ℕ) → ℕ
delivered_of w x = sent_of w x (hops_of w x - 1)

-- the packets that have come to place j: to the first all that were accepted, to another all that were sent before it
unfoldable pub entered_of : Store → (x j : ℕ) → ℕ
entered_of w x zero = accepted_of w x
entered_of w x (suc j) = sent_of w x j

-- the packets held there
abbrev pub held_of : Store → (x j : ℕ) → ℕ
held_of w x j = entered_of w x j - sent_of w x j
