-- The digits from place i on are written, the last first.
use Rattle.text_decimal.proofs.Writing.{Written}
use Rattle.text_decimal.proofs.write.Given as goal

abbrev pub invariant-loop-i : goal.invariant-loop-i
invariant-loop-i l = Written l.fn.out l.at l.n l.out l.i l.rest
