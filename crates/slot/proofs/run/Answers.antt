use Rattle.std.proofs.Common.{sym}
use Rattle.slot_rules.proofs.Laws.Sends.{written_none}
use Rattle.slot.proofs.Laws.{ran_before_end, ran_room, turn_has}
use Rattle.slot.proofs.run.Goals as goal

pub new-requires : goal.new-requires
new-requires c = turn_has _ _ (sym c.in-Ok.ensures.value) _ _ c.in-Ok.ensures.picks_after

pub report-sends-requires : goal.report-sends-requires
report-sends-requires c = rw c.new.ensures (ran_room _ _ (sym c.in-Ok.ensures.value))

pub move_on-requires-clause-picks : goal.move_on-requires-clause-picks
move_on-requires-clause-picks c = turn_has _ _ (sym c.in-Ok.ensures.value) _ _ c.in-Ok.ensures.picks_after

pub move_on-requires-clause-before_end : goal.move_on-requires-clause-before_end
move_on-requires-clause-before_end c = ran_before_end _ _ (sym c.in-Ok.ensures.value)

pub returns-in-Err-clause-out_after : goal.returns-in-Err-clause-out_after
returns-in-Err-clause-out_after c = sym (rw (sym c.in-Err.ensures.value) (written_none _))
