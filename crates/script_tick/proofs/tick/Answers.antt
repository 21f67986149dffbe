use mathlib.Core.Path.{◌≡◌}
use borrow.Author.Rules.{rules}
use Rattle.store.specs.Layout.{clock_of}
use Rattle.script_tick.proofs.Ticking.{Done, ticking_none, ticking_more, ticking_done}
use Rattle.script_tick.proofs.tick.Goals as goal

pub loop-end-init : goal.loop-end-init
loop-end-init c = search (rules, ticking_none)

pub loop-end-preserved : goal.loop-end-preserved
loop-end-preserved c = ticking_more _ _ _ _ _ _ _ _ c.loop-end.invariant _ _ _ _ c.step-stepped.ensures

pub returns-then-over : goal.returns-then-over
returns-then-over c =
    let last = c.line-last in
    let told : c.clock.result ≡ clock_of c.loop-end.store = rw c.new.ensures at c.clock.ensures in
    let done : Done c.args.store.now c.args.slots c.args.out.now c.args.at c.loop-end.store last.new.out last.result =
    search (rules, ticking_done) in
    record { listed = done.listed; stored = done.stored; front = done.front; within = done.within; fewer = tt }
