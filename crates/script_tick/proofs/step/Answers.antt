-- By whether the slot was refused, sent nothing or sent.
use mathlib.Core.Path.{sym, ◌∙◌}
use native.Mathlib.Omega.{arith}
use borrow.Author.Rules.{rules}
use Rattle.script_tick.proofs.Laws.Skips.{skip_few}
use Rattle.script_tick.proofs.Steps.{sends_fit, step_refused, step_still, step_end, step_sent}
use Rattle.script_tick.proofs.step.Goals as goal

pub returns-then-number-ne0 : goal.returns-then-number-ne0
returns-then-number-ne0 c = search (rules, step_refused)

pub returns-in_default : goal.returns-in_default
returns-in_default c = search (rules, step_end)

pub overflow_sub-later : goal.overflow_sub-later
overflow_sub-later c = omega (arith, skip_few _ _ (sym c.skip.ensures.value ∙ c.in-Ok.is))

pub returns-then-count-eq0 : goal.returns-then-count-eq0
returns-then-count-eq0 c = search (rules, step_still)

pub sends-end-requires-clause-room : goal.sends-end-requires-clause-room
sends-end-requires-clause-room c = search (rules, sends_fit)

pub returns : goal.returns
returns c = search (rules, step_sent)
