use mathlib.Core.Path.{◌∙◌}
use Rattle.script_run.proofs.Steps.{gathered_within, unfed_owed, fed_owed}
use Rattle.script_run.proofs.line.Goals as goal

pub returns-then-gathered-clause-same : goal.returns-then-gathered-clause-same
returns-then-gathered-clause-same c more =
    let g = c.gather-gathered.ensures in
    rw c.kept_line.ensures.line.1
    (fed_owed c.args.run _ _ _ _ _ _ _ c.requires.no_tick c.requires.kept c.requires.inside c.told-text g.value g.line_after
    more c.if-gathered.true
    ∙ c.kept_line.ensures.same _)

pub returns-then-gathered-clause-goes_on : goal.returns-then-gathered-clause-goes_on
returns-then-gathered-clause-goes_on c =
    let g = c.gather-gathered.ensures in
    rw c.kept_line.ensures.line.1
    (gathered_within c.args.run c.args.store.now c.args.links.now _ _ c.args.out.now _ _ c.requires.no_tick c.requires.kept
    c.requires.inside c.told-text g.value g.line_after)

pub returns-clause-same : goal.returns-clause-same
returns-clause-same c more =
    let g = c.gather-gathered.ensures in
    unfed_owed c.args.run _ _ _ _ _ _ _ c.requires.no_tick c.requires.kept c.requires.inside c.told-text g.value g.line_after
    more c.if-gathered.false

pub returns-clause-goes_on : goal.returns-clause-goes_on
returns-clause-goes_on c =
    let g = c.gather-gathered.ensures in
    gathered_within c.args.run c.args.store.now c.args.links.now _ _ c.args.out.now _ _ c.requires.no_tick c.requires.kept
    c.requires.inside c.told-text g.value g.line_after
