-- Document 01, "A slot": the packet of a channel that goes next at a place of its route. "Within a channel: message order, then
-- packet order": packets are numbered over all messages, and the next one is number `sent_of`.
use Rattle.std.specs.Prelude.{ℕ, zero, suc, ◌+◌, ◌-◌, Bool, true, false, leb, ltb}
use Rattle.store.specs.Layout.{Store, ring, clock_of, messages_of, delay_of, sent_of, time_of, end_of}
use Rattle.folds.specs.Folds.{sum_to}
use Rattle.store.specs.Amounts.{entered_of}

-- the message, counted from 1, that packet i is of: the one before it ends at i or below. It is looked for from message n back,
-- among `kept` messages.
unfoldable pub message_with : Store → (x i n kept : ℕ) → ℕ
message_with w x i n zero = n
message_with w x i zero (suc kept) = zero
message_with w x i (suc n) (suc kept) = elim (leb (end_of w x n) i) [ true ↦ suc n | false ↦ message_with w x i n kept ]

-- the message that goes next, or is going, at place j; in a sound store it is one of the last 23
abbrev pub message_of : Store → (x j : ℕ) → ℕ
message_of w x j = message_with w x (sent_of w x j) (messages_of w x) (ring - 1)

-- its packets are counted from 0: the number of the next one
abbrev pub packet_of : Store → (x j : ℕ) → ℕ
packet_of w x j = sent_of w x j - end_of w x (message_of w x j - 1)

-- "On a channel's next link the logical time is that of the link before plus the delay there."
abbrev pub logical_of : Store → (x j : ℕ) → ℕ
logical_of w x j = time_of w x (message_of w x j) + sum_to (delay_of w x) j

-- "Deadline on a link: logical time + d"
abbrev pub deadline_of : Store → (x j : ℕ) → ℕ
deadline_of w x j = logical_of w x j + delay_of w x j

-- the packet is held there: it has come
abbrev pub is_held : Store → (x j : ℕ) → Bool
is_held w x j = ltb (sent_of w x j) (entered_of w x j)

-- "A packet is current when its logical time is at most the present slot."
abbrev pub is_current : Store → (x j : ℕ) → Bool
is_current w x j = leb (logical_of w x j) (clock_of w)
