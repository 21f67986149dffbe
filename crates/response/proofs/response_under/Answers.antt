-- each turn is one trial, and what is left to try is the answer
use Rattle.response.specs.Trials.{response}
use Rattle.response.proofs.Laws.Need.{need_mono, start_rises}
use Rattle.response.proofs.Laws.Trials.{trying_none, trying_equal, trying_on, trying_passed}
use Rattle.response.proofs.Laws.Numbers.{ranged_spaced}
use Rattle.response.proofs.response_under.Goals as goal

pub loop-r-init : goal.loop-r-init
loop-r-init c = trying_none _ _ _ _ c.start-r.ensures (start_rises _ _ (ranged_spaced _ c.requires.workable.ranged))

pub returns-then-n-r : goal.returns-then-n-r
unfolding response
returns-then-n-r c =
    trying_equal _ _ _ _ _ _ c.loop-r.invariant c.loop-r-test.true c.need-n.ensures c.if-n-r.true

pub loop-r-preserved : goal.loop-r-preserved
loop-r-preserved c =
    let spaced = ranged_spaced _ c.requires.workable.ranged in
    trying_on _ _ _ (λ a b. need_mono _ _ a b spaced) _ _ _ c.loop-r.invariant c.loop-r-test.true c.need-n.ensures c.if-n-r.false

pub returns : goal.returns
unfolding response
returns c = trying_passed _ _ _ _ _ c.loop-r.invariant c.loop-r-test.false
