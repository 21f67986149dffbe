use Rattle.std.proofs.Common.{rules, tests}
use Rattle.folds.proofs.Chains.{failing_from_find}
use Rattle.setup_list.specs.List.{link_passes_at}
use Rattle.setup_list.proofs.bad_link.Goals as goal

pub returns : goal.returns
returns c =
    failing_from_find
    (link_passes_at c.args.links.now)
    c.args.n
    _
    _
    _
    c.find.ensures.ran
    (cc)
    (λ x b q k. search (rules, tests))
