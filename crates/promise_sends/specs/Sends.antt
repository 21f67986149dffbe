-- Some of a list of sends, and what a send is of.
use Rattle.std.specs.Prelude.{ℕ, Bool, ◌&&◌, eqb}
use Rattle.slot_rules.specs.Slot.{Send}

-- it was sent on link l, for channel x
abbrev pub is_on : (x l : ℕ) → Send → Bool
is_on x l s = eqb s.channel x && eqb s.link l

-- it is of message n
abbrev pub is_message : (n : ℕ) → Send → Bool
is_message n s = eqb s.message n

-- the packet that was sent, by its message and its number there
abbrev pub name_of : Send → ℕ × ℕ
name_of s = (s.message, s.packet)
