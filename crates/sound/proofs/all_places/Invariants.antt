use Rattle.std.proofs.Common.{◌≡◌, ◌≤◌, ◌*◌}
use Rattle.kinds.specs.Ranges.{most_hops}
use Rattle.store.specs.Layout.{hops_of}
use Rattle.folds.specs.Folds.{sum_to}
use Rattle.sound.proofs.all_places.Given as goal

abbrev pub invariant-loop-x : goal.invariant-loop-x
invariant-loop-x l = record {
  total : l.sum ≡ sum_to (hops_of l.store) l.x;
  small : l.sum ≤ most_hops * l.x;
}
