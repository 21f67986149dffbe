use Rattle.std.proofs.Common.{◌≡◌, ◌≤◌, ◌*◌}
use Rattle.kinds.specs.Ranges.{most_rows}
use Rattle.store.specs.Layout.{rows_of}
use Rattle.folds.specs.Folds.{sum_to}
use Rattle.sound.proofs.all_rows.Given as goal

abbrev pub invariant-loop-l : goal.invariant-loop-l
invariant-loop-l l = record {
  total : l.sum ≡ sum_to (rows_of l.store) l.l;
  small : l.sum ≤ most_rows * l.l;
}
