-- the links passed have picked
use Rattle.std.proofs.Common.{◌≡◌}
use Rattle.slot_pick.specs.Picks.{picks_to}
use Rattle.slot_pick.proofs.picks.Given as goal

abbrev pub invariant-loop-l : goal.invariant-loop-l
invariant-loop-l l = l.picked ≡ picks_to l.store l.l
