use Rattle.std.proofs.Common.{◌≡◌}
use Rattle.setup_fresh.specs.Fresh.{links_written}
use Rattle.setup_fresh.proofs.put_links.Given as goal

abbrev pub invariant-loop-l : goal.invariant-loop-l
invariant-loop-l l = l.store ≡ links_written l.initial.store l.links l.l
