-- of the rows passed, the best current one and the best early one are kept
use Rattle.slot_pick.proofs.Steps.{Choosing}
use Rattle.slot_pick.proofs.pick.Given as goal

abbrev pub invariant-loop-k : goal.invariant-loop-k
invariant-loop-k l = Choosing l.store l.l l.k l.due l.soon
