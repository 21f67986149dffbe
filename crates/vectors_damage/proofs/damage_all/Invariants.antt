-- it counts at most one for each number
use Rattle.std.proofs.Common.{◌≤◌}
use Rattle.vectors_damage.proofs.damage_all.Given as goal

abbrev pub invariant-loop-at : goal.invariant-loop-at
invariant-loop-at g l = l.matter ≤ l.at
