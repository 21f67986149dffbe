-- With each step that wants room, less is left to be written.
use Rattle.std.proofs.Common.{length, drop}
use Rattle.script_run.specs.Run.{rest_of}
use Rattle.roomrun.proofs.play.Given as goal

abbrev pub decreases-loop : goal.decreases-loop
decreases-loop g l =
    length (rest_of (record { run = l.before; store = l.store; links = l.links; text = l.text }) (drop l.before.from l.chunk))
