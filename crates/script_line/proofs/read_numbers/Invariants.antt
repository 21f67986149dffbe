-- So many of the words behind the first are read.
use Rattle.std.proofs.Common.{length, ◌-◌}
use Rattle.script_line.proofs.Reading.{Reading}
use Rattle.script_line.proofs.read_numbers.Given as goal

abbrev pub invariant-loop-end : goal.invariant-loop-end
invariant-loop-end l = Reading l.line l.fn.numbers l.numbers l.count l.end

abbrev pub decreases-loop-end : goal.decreases-loop-end
decreases-loop-end l = length l.line - l.end
