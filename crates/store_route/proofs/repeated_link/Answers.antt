use Rattle.std.proofs.Common.{◌≡◌, true, arith, length}
use Rattle.folds.specs.Folds.{every, failing}
use Rattle.folds.proofs.Folds.{every_more, every_false, first_at}
use Rattle.store.specs.Route.{along, is_new}
use Rattle.store_route.proofs.Seen.{marks_more, again, new}
use Rattle.store_route.proofs.repeated_link.Goals as goal

pub returns-then-seen-l : goal.returns-then-seen-l
unfolding failing
returns-then-seen-l c =
    let new_at = is_new (along c.args.route.now) in
    let e = again c.loop-j.invariant.marks (c.requires c.loop-j.j c.loop-j-test.true) c.if-seen-l.true in
    let f = every_false new_at (length c.args.route.now) c.loop-j.j c.loop-j-test.true e in
    rw (f, first_at new_at (length c.args.route.now) c.loop-j.j c.loop-j.invariant.passed e c.loop-j-test.true, failing)

pub loop-j-preserved : goal.loop-j-preserved
loop-j-preserved c =
    let few = c.requires c.loop-j.j c.loop-j-test.true in
    record {
      passed = every_more _ _ c.loop-j.invariant.passed (new c.loop-j.invariant.marks few c.if-seen-l.false);
      marks = marks_more c.loop-j.invariant.marks few;
    }

pub returns : goal.returns
unfolding failing
returns c =
    let new_at = is_new (along c.args.route.now) in
    let e : every new_at (length c.args.route.now) ≡ true = grind (arith, c.loop-j.invariant.passed) in
    rw (e, failing)
