use Rattle.std.proofs.Common.{◌≤◌, rules, tests}
use Rattle.std.proofs.lemmas.Iterator.{serves_from_Range}
use Rattle.store.specs.Layout.{number_at}
use Rattle.store.specs.Ranged.{most_reserved}
use Rattle.store.specs.Route.{along}
use Rattle.folds.proofs.Chains.{failing_from_find}
use Rattle.open_rules.specs.Shares.{fits_buffer}
use Rattle.open_shares.proofs.Rows.{link_exists}
use Rattle.open_shares.proofs.full_link.Goals as goal

pub find-requires-clause-callable : goal.find-requires-clause-callable
find-requires-clause-callable c =
    serves_from_Range (λ x q k. search (rules, tests))
    (λ x low high.
    let there = link_exists c.args.store.now c.args.route.now _ c.requires.known x high in
    let small : number_at c.args.reserved.now x ≤ most_reserved = c.requires.all_up_to x high in
    search rules)

pub returns : goal.returns
returns c =
    failing_from_find (fits_buffer c.args.store.now (along c.args.route.now) (number_at c.args.reserved.now)) _ _ _ _
    c.find.ensures.ran (cc) (λ x b q k. (search rules, search (rules, tests)))
