use Rattle.std.proofs.Common.{sym, arith, tests}
use Rattle.store.specs.Layout.{hops_of}
use Rattle.store.specs.Sound.{place_fits}
use Rattle.folds.proofs.Folds.{every_false}
use Rattle.sound_channel.proofs.places_fit.Goals as goal

pub returns-then-delay-lt1 : goal.returns-then-delay-lt1
returns-then-delay-lt1 c =
    let w = c.args.channel.now.store in
    sym (every_false (place_fits w c.args.channel.now.x) (hops_of w c.args.channel.now.x) c.loop-j.j (omega arith) (grind (arith, tests)))
