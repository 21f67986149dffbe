-- The buffer of bytes that the listing goes through: its length, and the last places from which a line, and all that a slot
-- writes (16 sends of at most 110 bytes), fit into it.
use Rattle.std.specs.Prelude.{ℕ}

abbrev pub buffer_length : ℕ
buffer_length = 65_536

abbrev pub last_for_line : ℕ
last_for_line = 65_000

abbrev pub last_for_slot : ℕ
last_for_slot = 63_776
