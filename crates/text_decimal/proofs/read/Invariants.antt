-- The first bytes from `from` on are digits, and say `value`.
use Rattle.text_decimal.proofs.Reading.{Read}
use Rattle.text_decimal.proofs.read.Given as goal

abbrev pub invariant-loop-byte : goal.invariant-loop-byte
invariant-loop-byte l = Read l.text l.from l.rest l.byte-index l.value l.end
