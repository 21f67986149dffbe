use Rattle.std.proofs.Common.{◌≡◌}
use Rattle.store.specs.Layout.{number_at}
use Rattle.store.specs.Route.{along}
use Rattle.open_rules.specs.Join.{places_written}
use Rattle.open_write.proofs.put_places.Given as goal

abbrev pub invariant-loop-j : goal.invariant-loop-j
invariant-loop-j l = l.store ≡ places_written l.initial.store l.x (along l.fn.route) (number_at l.delays) l.j
