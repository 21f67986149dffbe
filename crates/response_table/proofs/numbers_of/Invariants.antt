-- the rows before row i are in the numbers
use Rattle.std.proofs.Common.{◌≡◌}
use Rattle.response_table.proofs.Numbers.{filled}
use Rattle.response_table.proofs.numbers_of.Given as goal

abbrev pub invariant-loop-i : goal.invariant-loop-i
invariant-loop-i l = l.numbers ≡ filled l.rows l.i
