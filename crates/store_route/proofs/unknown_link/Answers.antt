use Rattle.std.proofs.Common.{nat_lt, rules, tests}
use Rattle.store.specs.Layout.{links_of}
use Rattle.store.specs.Route.{along, exists}
use Rattle.folds.proofs.Chains.{failing_from_position}
use Rattle.store_route.proofs.unknown_link.Goals as goal

pub returns : goal.returns
returns c =
    failing_from_position (exists c.args.store.now (along c.args.route.now)) (λ l. nat_lt l (links_of c.args.store.now))
    c.args.route.now _ _ _ c.position.ensures.ran (cc) (λ x b q k. (search rules, search (rules, tests))) (λ j l. search rules)
