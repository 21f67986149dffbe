-- the smallest of what the links passed have to wait
use Rattle.std.proofs.Common.{◌≡◌}
use Rattle.slot_wait.specs.Least.{least_to}
use Rattle.slot_wait.proofs.idle.Given as goal

abbrev pub invariant-loop-l : goal.invariant-loop-l
invariant-loop-l l = l.least ≡ least_to l.store l.l
