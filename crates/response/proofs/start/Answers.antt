-- a turn takes a row in range off the front of what is left
use Rattle.std.proofs.Common.{◌∙◌, refl, arith}
use Rattle.response.specs.Need.{packets, start}
use Rattle.response.proofs.Laws.Numbers.{adding_row, adding_more, adding_done}
use Rattle.response.proofs.start.Goals as goal

pub overflow_add-length : goal.overflow_add-length
overflow_add-length c =
    let i = c.loop-row.invariant in
    let s = c.in-Some.ensures.steps.1 in
    omega (arith, adding_row i.1 _ _ s.0 (s.1 ∙ i.0), i.1.bound, c.requires.short)

pub loop-row-preserved : goal.loop-row-preserved
unfolding packets
loop-row-preserved c =
    let i = c.loop-row.invariant in
    let s = c.in-Some.ensures.steps.1 in
    let b = adding_row i.1 _ _ s.0 (s.1 ∙ i.0) in
    (c.in-Some.ensures.steps.0 ∙ i.0, adding_more i.1 _ _ s.0 (s.1 ∙ i.0) _ b.c_most refl)

pub returns : goal.returns
unfolding packets start
returns c =
    let i = c.loop-row.invariant in
    adding_done i.1 (omega (arith, c.in-None.ensures.steps.1.0, i.0)) refl
