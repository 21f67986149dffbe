use Rattle.std.proofs.Common.{rules, tests}
use Rattle.store.specs.Layout.{links_of}
use Rattle.store.specs.Sound.{rows_sound}
use Rattle.folds.proofs.Chains.{every_from_all}
use Rattle.sound_rows.proofs.rows_sound.Goals as goal

pub returns : goal.returns
returns c =
    let w = c.args.store.now in
    every_from_all (rows_sound w) (links_of w) _ _ _ c.all.ensures.ran (cc) (λ x b q k. search (rules, tests))
