use Rattle.std.proofs.Common.{rules, tests}
use Rattle.store.specs.Layout.{channels_of}
use Rattle.store.specs.Sound.{channel_sound}
use Rattle.folds.proofs.Chains.{every_from_all}
use Rattle.sound.proofs.channels_sound.Goals as goal

pub returns : goal.returns
returns c =
    every_from_all (channel_sound c.args.store.now) (channels_of c.args.store.now) _ _ _ c.all.ensures.ran (cc)
    (λ x b q k. search (rules, tests))
