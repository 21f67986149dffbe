use Rattle.std.proofs.Common.{◌≡◌, true}
use Rattle.folds.specs.Folds.{every}
use Rattle.store.specs.Route.{along, is_new}
use Rattle.store_route.proofs.Seen.{Marks}
use Rattle.store_route.proofs.repeated_link.Given as goal

abbrev pub invariant-loop-j : goal.invariant-loop-j
invariant-loop-j l = record {
  passed : every (is_new (along l.route)) l.j ≡ true;
  marks : Marks (along l.route) l.seen l.j;
}
