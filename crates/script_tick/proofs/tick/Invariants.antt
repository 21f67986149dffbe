-- What stands in the buffer so far, and what is still to come, are the tick.
use Rattle.script_tick.proofs.Ticking.{Ticking}
use Rattle.script_tick.proofs.tick.Given as goal

abbrev pub invariant-loop-end : goal.invariant-loop-end
invariant-loop-end l = Ticking l.fn.store l.fn.slots l.fn.out l.at l.store l.out l.end l.left

abbrev pub decreases-loop-end : goal.decreases-loop-end
decreases-loop-end l = l.left
