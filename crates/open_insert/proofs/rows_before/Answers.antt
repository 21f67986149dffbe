use Rattle.std.proofs.Common.{◌≡◌, rules, tests}
use Rattle.folds.specs.Folds.{failing}
use Rattle.folds.proofs.Chains.{failing_from_find}
use Rattle.open_rules.specs.Join.{no_later}
use Rattle.open_insert.proofs.Steps.{first_or_end}
use Rattle.open_insert.proofs.rows_before.Goals as goal

pub returns : goal.returns
returns c =
    let f = no_later c.args.store.now c.args.l c.args.d in
    let found : c.find.result ≡ failing f c.rows-rows.result =
    failing_from_find f c.rows-rows.result _ _ _ c.find.ensures.ran (cc) (λ x b q k. search (rules, tests)) in
    rw (c.unwrap_or.ensures, found, first_or_end, c.rows-rows.ensures, c.link-link.ensures)
