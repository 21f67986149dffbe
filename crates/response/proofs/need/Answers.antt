-- a turn takes a row in range off the front of what is left
use Rattle.std.proofs.Common.{◌∙◌, refl, arith}
use Rattle.response.specs.Need.{work, need}
use Rattle.response.proofs.Laws.Numbers.{adding_row, adding_more, adding_done, asked_most}
use Rattle.response.proofs.need.Goals as goal

pub asked-sum-requires : goal.asked-sum-requires
asked-sum-requires c =
    let i = c.loop-row.invariant in
    let s = c.in-Some.ensures.steps.1 in
    let b = adding_row i.1 _ _ s.0 (s.1 ∙ i.0) in
    record { c_le_most_c = b.c_most; p_positive = b.p_least; p_le_most_p = b.p_most; r_le_most_p = c.requires.r_le_most_p }

pub overflow_add-sum : goal.overflow_add-sum
overflow_add-sum c =
    let i = c.loop-row.invariant in
    let s = c.in-Some.ensures.steps.1 in
    let b = asked_most _ c.args.r (adding_row i.1 _ _ s.0 (s.1 ∙ i.0)) c.requires.r_le_most_p in
    omega (arith, b, c.asked-sum.ensures, i.1.bound, c.requires.workable.short)

pub loop-row-preserved : goal.loop-row-preserved
unfolding work
loop-row-preserved c =
    let i = c.loop-row.invariant in
    let s = c.in-Some.ensures.steps.1 in
    let b = asked_most _ c.args.r (adding_row i.1 _ _ s.0 (s.1 ∙ i.0)) c.requires.r_le_most_p in
    let e = c.asked-sum.ensures in
    (c.in-Some.ensures.steps.0 ∙ i.0, rw e (adding_more i.1 _ _ s.0 (s.1 ∙ i.0) _ b refl))

pub returns : goal.returns
unfolding work need
returns c =
    let i = c.loop-row.invariant in
    adding_done i.1 (omega (arith, c.in-None.ensures.steps.1.0, i.0)) refl
