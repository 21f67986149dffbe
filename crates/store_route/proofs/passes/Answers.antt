use Rattle.std.proofs.Common.{◌<◌, sym, arith, tests, length}
use Rattle.kinds.specs.Ranges.{most_links}
use Rattle.folds.specs.Folds.{every}
use Rattle.folds.proofs.Folds.{and-false, every_more, every_false}
use Rattle.store.specs.Route.{along, exists, is_new, joins}
use Rattle.store_route.proofs.Seen.{marks_more, again, new}
use Rattle.store_route.proofs.passes.Goals as goal
use Rattle.store_route.proofs.passes.Goals.{then-l-links-via-then-l-links, then-l-links-via-else-l-links+then-met-l}

pub returns-then-l-links : goal.returns-then-l-links
returns-then-l-links c =
    let w = c.args.store.now in
    let route = along c.args.route.now in
    let inside = c.loop-j-test.true in
    elim c.then-l-links.branch [
      | then-l-links-via-then-l-links t ↦
          let e = every_false (exists w route) (length c.args.route.now) c.loop-j.j inside (grind (arith, tests)) in
          rw e
      | then-l-links-via-else-l-links+then-met-l t ↦
          let few : route c.loop-j.j < most_links = omega (arith, c.links-links.ensures, t.if-l-links.false) in
          let e = every_false (is_new route) (length c.args.route.now) c.loop-j.j inside (again c.loop-j.invariant.marks few t.if-met-l.true) in
          sym (and-false (every (exists w route) (length c.args.route.now)) _ (rw e))
    ]

pub is_joined-requires-clause-known : goal.is_joined-requires-clause-known
is_joined-requires-clause-known c =
    every_more _ _ c.loop-j.invariant.existing (grind (arith, tests))

pub returns-then-not-is_joined : goal.returns-then-not-is_joined
returns-then-not-is_joined c =
    let w = c.args.store.now in
    let route = along c.args.route.now in
    let e = every_false (joins w route) (length c.args.route.now) c.loop-j.j c.loop-j-test.true (cc) in
    sym (and-false (every (exists w route) (length c.args.route.now)) _ (and-false (every (is_new route) (length c.args.route.now)) _ e))

pub loop-j-preserved : goal.loop-j-preserved
loop-j-preserved c =
    let route = along c.args.route.now in
    let few : route c.loop-j.j < most_links = omega (arith, c.links-links.ensures, c.if-l-links.false) in
    record {
      existing = every_more _ _ c.loop-j.invariant.existing (grind (arith, tests));
      new = every_more _ _ c.loop-j.invariant.new (new c.loop-j.invariant.marks few c.if-met-l.false);
      joined = every_more _ _ c.loop-j.invariant.joined (cc);
      marks = marks_more c.loop-j.invariant.marks few;
    }
