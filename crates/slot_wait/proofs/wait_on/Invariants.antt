-- the smallest of what the rows passed have to wait
use Rattle.std.proofs.Common.{◌≡◌}
use Rattle.slot_rules.specs.Pick.{row_held}
use Rattle.slot_wait.specs.Least.{least_of, wait_of}
use Rattle.slot_wait.proofs.wait_on.Given as goal

abbrev pub invariant-loop-k : goal.invariant-loop-k
invariant-loop-k l = l.least ≡ least_of (row_held l.store l.l) (wait_of l.store l.l) l.most l.k
