use Rattle.std.proofs.Common.{◌≡◌, ◌≤◌, ◌*◌}
use Rattle.kinds.specs.Ranges.{most_buffer}
use Rattle.store.specs.Sound.{row_reserved_of}
use Rattle.folds.specs.Folds.{sum_to}
use Rattle.open_shares.proofs.taken.Given as goal

abbrev pub invariant-loop-k : goal.invariant-loop-k
invariant-loop-k l = record {
  total : l.sum ≡ sum_to (row_reserved_of l.store l.l) l.k;
  small : l.sum ≤ most_buffer * l.k;
}
