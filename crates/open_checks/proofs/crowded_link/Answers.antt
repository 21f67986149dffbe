use Rattle.std.proofs.Common.{rules, tests}
use Rattle.std.proofs.lemmas.Iterator.{serves_from_Range}
use Rattle.store.specs.Route.{along}
use Rattle.folds.proofs.Chains.{failing_from_find}
use Rattle.open_rules.specs.Refusal.{takes_row}
use Rattle.open_checks.proofs.Sound.{link_there}
use Rattle.open_checks.proofs.crowded_link.Goals as goal

pub find-requires-clause-callable : goal.find-requires-clause-callable
find-requires-clause-callable c =
    serves_from_Range (λ x q k. search (rules, tests)) (λ x low high. let there = link_there c.args.store.now c.args.route.now _ c.requires x high in search rules)

pub returns : goal.returns
returns c =
    failing_from_find (takes_row c.args.store.now (along c.args.route.now)) _ _ _ _ c.find.ensures.ran (cc)
    (λ x b q k. (search rules, search (rules, tests)))
