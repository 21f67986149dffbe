-- the sends of the links passed stand at the front of the output
use Rattle.slot_move.proofs.Sends.{Sending}
use Rattle.slot_move.proofs.report.Given as goal

abbrev pub invariant-loop-l : goal.invariant-loop-l
invariant-loop-l l = Sending l.picked l.fn.out l.n l.l l.out
