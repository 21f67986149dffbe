use Rattle.std.proofs.Common.{◌+◌, rules, tests, arith, length}
use Rattle.std.proofs.lemmas.Iterator.{serves_from_Range}
use Rattle.store.specs.Route.{along, exists, joins}
use Rattle.folds.proofs.Folds.{every_front}
use Rattle.folds.proofs.Chains.{failing_from_find}
use Rattle.store_route.proofs.parted_link.Goals as goal

pub find-requires-clause-callable : goal.find-requires-clause-callable
find-requires-clause-callable c =
    let known = exists c.args.store.now (along c.args.route.now) in
    serves_from_Range (λ x q k. search (rules, tests))
    (λ x low high. let e = every_front known (length c.args.route.now) c.requires.known (x + 1) (omega arith) in search rules)

pub returns : goal.returns
returns c =
    failing_from_find (joins c.args.store.now (along c.args.route.now)) (length c.args.route.now) _ _ _ c.find.ensures.ran (cc)
    (λ x b q k. search (rules, tests))
