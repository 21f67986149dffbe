-- The second 17 of an offer, "the call would leave one that is not" sound, as the code looks at it. proofs/ shows that this is
-- the same.
use Rattle.std.specs.Prelude.{ℕ, ◌+◌, ◌-◌, Bool, ◌&&◌, leb}
use Rattle.kinds.specs.Ranges.{is_number}
use Rattle.store.specs.Layout.{Store, ring, messages_of}
use Rattle.store.specs.Amounts.{reserved_of, held_of}
use Rattle.store.specs.Sound.{in_order}

-- One message more may be counted, and kept: at most 22 are undelivered before it. And its packets are held within what is
-- reserved.
abbrev pub takes_message : Store → (x packets : ℕ) → Bool
takes_message w x packets =
    is_number (messages_of w x + 1)
    && (in_order w x (messages_of w x) (ring - 2) && leb (held_of w x 0 + packets) (reserved_of w x 0))
