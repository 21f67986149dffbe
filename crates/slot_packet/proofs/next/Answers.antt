use Rattle.slot_packet.proofs.Laws.{found_last, found_none, found_here, looking_back}
use Rattle.slot_packet.proofs.next.Goals as goal

pub loop-preserved : goal.loop-preserved
loop-preserved c =
    looking_back c.loop.invariant c.loop-test.true c.if-n-eq0.false c.place_before-before.ensures.value c.end_in.ensures
    c.if-end_in-sent.false

pub returns-after-loop : goal.returns-after-loop
returns-after-loop c = found_last c.loop.invariant c.loop-test.false

pub returns-then-n-eq0 : goal.returns-then-n-eq0
returns-then-n-eq0 c = found_none c.loop.invariant c.loop-test.true c.if-n-eq0.true

pub returns-then-end_in-sent : goal.returns-then-end_in-sent
returns-then-end_in-sent c =
    found_here c.loop.invariant c.loop-test.true c.if-n-eq0.false c.place_before-before.ensures.value c.end_in.ensures
    c.if-end_in-sent.true
