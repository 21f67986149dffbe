use Rattle.std.proofs.Common.{◌≡◌, ◌≤◌, ◌*◌}
use Rattle.kinds.specs.Ranges.{most_p}
use Rattle.store.specs.Layout.{delay_of}
use Rattle.folds.specs.Folds.{sum_to}
use Rattle.store_route.proofs.offset.Given as goal

abbrev pub invariant-loop-i : goal.invariant-loop-i
invariant-loop-i l = record {
  total : l.sum ≡ sum_to (delay_of l.channel.store l.channel.x) l.i;
  small : l.sum ≤ most_p * l.i;
}
