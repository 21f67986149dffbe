-- the packets of the links passed have moved on
use Rattle.std.proofs.Common.{◌≡◌}
use Rattle.slot_rules.specs.Slot.{moved_to}
use Rattle.slot_move.proofs.move_on.Given as goal

abbrev pub invariant-loop-l : goal.invariant-loop-l
invariant-loop-l l = l.store ≡ moved_to l.fn.store l.l
