use Rattle.std.proofs.Common.{◌≡◌}
use Rattle.open_rules.specs.Join.{rows_joined}
use Rattle.open_write.proofs.join_rows.Given as goal

abbrev pub invariant-loop-j : goal.invariant-loop-j
invariant-loop-j l = l.store ≡ rows_joined l.initial.store l.x l.j
