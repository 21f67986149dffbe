use Rattle.std.proofs.Common.{rules, tests}
use Rattle.folds.proofs.Chains.{every_from_all}
use Rattle.slot_keeps.specs.Room.{room_after}
use Rattle.slot_checks.proofs.fits.Goals as goal

pub returns : goal.returns
returns c = every_from_all (room_after c.args.picked.now) _ _ _ _ c.all.ensures.ran (cc) (λ x b q k. search (rules, tests))
