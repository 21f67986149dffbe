-- What the contracts of the code say of a step beside its store and text.
use Rattle.std.specs.Prelude.{ℕ, ◌+◌, length}
use Rattle.script_play.specs.declared.Played.{Played}
use Rattle.script_play.specs.Play.{Step}

-- the answer of a call that writes what the step writes from place `at` on
abbrev pub played_at : (at : ℕ) → Step → Played
played_at at s = record { phase = s.phase; next = s.next; at = at + length s.out }
