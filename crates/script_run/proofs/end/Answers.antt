use Prim.Native.Nat.{◌≤◌}
use mathlib.Core.Path.{◌∙◌}
use native.Mathlib.Omega.{arith}
use lib.ListN.{length}
use Rattle.script_play.proofs.Laws.{ended_fits}
use Rattle.script_run.proofs.Rest.{over_rest}
use Rattle.script_run.proofs.Steps.{end_owed}
use Rattle.script_run.proofs.end.Goals as goal

pub returns-clause-same : goal.returns-clause-same
returns-clause-same c =
    let last = c.last_line-after.ensures in
    let none = last.no_line c.if-after-gt-LAST_FOR_SLOT.false in
    let inside : c.last_line-after.result.at ≤ length c.last_line-after.new.out = omega arith in
    let finish = c.finish-at.ensures in
    last.same
    ∙ end_owed _ _ c.last_line-after.result _ _ _ _ none.0 none.1 inside finish.value finish.out_after _ _ _

pub returns-clause-fits : goal.returns-clause-fits
returns-clause-fits c = ended_fits _ _ _ _ _ c.if-after-gt-LAST_FOR_SLOT.false c.finish-at.ensures.value

pub returns-clause-over : goal.returns-clause-over
returns-clause-over c h rest = over_rest _ _ _ _ rest
