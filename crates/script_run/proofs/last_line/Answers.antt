use Prim.Native.Nat.{◌≤◌, ◌<◌}
use mathlib.Core.Path.{◌∙◌}
use mathlib.Core.List.{[]}
use native.Mathlib.Omega.{arith}
use lib.ListN.{length}
use Rattle.script_run.proofs.Steps.{last_owed}
use Rattle.script_run.proofs.last_line.Goals as goal

pub returns-clause-same : goal.returns-clause-same
returns-clause-same c =
    let none = c.requires.no_tick c.if-run-gt-LAST_FOR_SLOT.false in
    let some : 0 < c.args.run.length = omega arith in
    let kept : c.args.run.length ≤ length c.args.text.now = omega arith in
    last_owed _ c.args.run _ _ _ none some kept ∙ (c.kept_line-after.ensures.same [] ∙ c.slots.ensures.same _ _ [])
