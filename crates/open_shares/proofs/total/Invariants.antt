use Rattle.std.proofs.Common.{◌≡◌, ◌≤◌, ◌*◌}
use Rattle.kinds.specs.Ranges.{most_p}
use Rattle.store.specs.Layout.{number_at}
use Rattle.folds.specs.Folds.{sum_to}
use Rattle.open_shares.proofs.total.Given as goal

abbrev pub invariant-loop-j : goal.invariant-loop-j
invariant-loop-j l = record {
  total : l.sum ≡ sum_to (number_at l.responses) l.j;
  small : l.sum ≤ most_p * l.j;
}
