use Rattle.std.proofs.Common.{◌≡◌, ◌+◌, ◌-◌, sym, arith}
use mathlib.Core.Path.{◌∙◌}
use Rattle.store.proofs.Laws.Ring.{ring_inside, ring_after, ring_back}
use Rattle.sound_messages.proofs.Laws.{on_delivered, at_end, at_first, one_back}
use Rattle.sound_messages.proofs.in_order.Goals as goal
use Rattle.sound_messages.proofs.in_order.Goals.{then-back-last-via-then-back-last}
use Rattle.sound_messages.proofs.in_order.Goals.{then-back-last-via-else-back-last+then-not-follows}

pub returns-then-end_in-sent : goal.returns-then-end_in-sent
returns-then-end_in-sent c =
    let i = c.loop-back.invariant in
    sym (i.same ∙ on_delivered _ _ _ _ i.place c.end_in.ensures i.sent_is _ c.if-end_in-sent.true)

pub follows-requires-clause-at_value : goal.follows-requires-clause-at_value
follows-requires-clause-at_value c =
    ring_after _ _ (ring_inside _ _ c.loop-back.invariant.place) c.place_before-before.ensures.value

pub returns-then-back-last : goal.returns-then-back-last
returns-then-back-last c =
    let i = c.loop-back.invariant in
    elim c.then-back-last.branch [
      | then-back-last-via-then-back-last t ↦
          sym (i.same ∙ at_first _ _ _ _ i.place c.end_in.ensures i.sent_is _ (omega arith) c.if-end_in-sent.false (omega arith))
      | then-back-last-via-else-back-last+then-not-follows t ↦
          let b = one_back _ _ _ _ i.place c.end_in.ensures i.sent_is (c.args.most - c.loop-back.back) (omega arith)
          c.if-end_in-sent.false (omega arith) c.place_before-before.ensures.value t.follows.ensures in
          sym (i.same ∙ b ∙ rw t.if-not-follows.true)
    ]

pub loop-back-preserved : goal.loop-back-preserved
loop-back-preserved c =
    let i = c.loop-back.invariant in
    let e : c.args.last - c.loop-back.back - 1 ≡ c.args.last - (c.loop-back.back + 1) = omega arith in
    let f : c.args.most - c.loop-back.back - 1 ≡ c.args.most - (c.loop-back.back + 1) = omega arith in
    let b = one_back _ _ _ _ i.place c.end_in.ensures i.sent_is (c.args.most - c.loop-back.back) (omega arith)
    c.if-end_in-sent.false (omega arith) c.place_before-before.ensures.value c.follows.ensures in
    record {
      sent_is = i.sent_is;
      reached = omega arith;
      place = rw e at (c.place_before-before.ensures.value ∙ ring_back _ _ i.place (omega arith));
      same = rw (c.if-not-follows.false, e, f) at (i.same ∙ b);
    }

pub returns : goal.returns
returns c =
    let i = c.loop-back.invariant in
    sym (i.same ∙ at_end _ _ _ _ i.place c.end_in-2.ensures i.sent_is _ (omega arith))
