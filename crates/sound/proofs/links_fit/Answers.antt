use Rattle.std.proofs.Common.{rules, tests}
use Rattle.store.specs.Layout.{links_of}
use Rattle.store.specs.Sound.{link_fits}
use Rattle.folds.proofs.Chains.{every_from_all}
use Rattle.sound.proofs.links_fit.Goals as goal

pub returns : goal.returns
returns c =
    every_from_all (link_fits c.args.store.now) (links_of c.args.store.now) _ _ _ c.all.ensures.ran (cc)
    (λ x b q k. search (rules, tests))
