use Rattle.std.proofs.Common.{◌≡◌, true}
use Rattle.folds.specs.Folds.{every}
use Rattle.store.specs.Route.{along, exists, is_new, joins}
use Rattle.store_route.proofs.Seen.{Marks}
use Rattle.store_route.proofs.passes.Given as goal

abbrev pub invariant-loop-j : goal.invariant-loop-j
invariant-loop-j l = record {
  existing : every (exists l.store (along l.route)) l.j ≡ true;
  new : every (is_new (along l.route)) l.j ≡ true;
  joined : every (joins l.store (along l.route)) l.j ≡ true;
  marks : Marks (along l.route) l.met l.j;
}
