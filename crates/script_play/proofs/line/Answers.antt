use native.Mathlib.Omega.{arith}
use borrow.Author.Rules.{rules}
use Rattle.script_play.proofs.Lengths.{started_place}
use Rattle.script_play.proofs.Lines.{first_value, first_out}
use Rattle.script_play.proofs.line.Goals as goal

pub answer_line-requires-in-Before-clause-room : goal.answer_line-requires-in-Before-clause-room
answer_line-requires-in-Before-clause-room c = omega (arith, started_place _ _ _ _ c.set_up-started.ensures.value)

pub returns-in-Running-phase-clause-value : goal.returns-in-Running-phase-clause-value
returns-in-Running-phase-clause-value c = search (rules, first_value)

pub returns-in-Running-phase-clause-out_after : goal.returns-in-Running-phase-clause-out_after
returns-in-Running-phase-clause-out_after c =
    let read = c.read-asked.ensures in
    let started = c.set_up-started.ensures in
    first_out _ _ _ _ _ _ _ c.in-Before.is _ c.is_link.ensures c.if-is_link.false _ read.value _ _ read.numbers_after
    _ started.value c.in-Running-phase.is _ started.store_after _ _ _ (omega arith) started.out_after
    c.answer_line-in-Before.ensures.out_after
