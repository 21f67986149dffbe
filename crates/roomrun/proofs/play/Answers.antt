use Rattle.script_run.proofs.Laws.{room_less}
use Rattle.roomrun.proofs.play.Goals as goal

pub loop-smaller : goal.loop-smaller
loop-smaller g c = room_less _ _ _ _ _ c.step-after.ensures.goes c.in-Room.is
