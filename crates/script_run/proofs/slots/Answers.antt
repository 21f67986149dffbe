use mathlib.Core.Path.{◌∙◌}
use Rattle.script_run.proofs.Rest.{pending_less}
use Rattle.script_run.proofs.Steps.{piece_owed}
use Rattle.script_run.proofs.slots.Goals as goal

pub loop-after-preserved : goal.loop-after-preserved
loop-after-preserved c =
    let i = c.loop-after.invariant in
    let t = c.tick-ticked.ensures in
    record {
      same = λ links text rest.
          i.same links text rest
          ∙ piece_owed c.loop-after.after _ _ _ _ _ _ _ c.in-Some.is t.listed t.stored t.front t.within.0 links text rest;
      fits = t.within.1;
      line = i.line;
    }

pub loop-after-smaller : goal.loop-after-smaller
loop-after-smaller c = pending_less _ _ _ c.in-Some.is c.tick-ticked.ensures.fewer
