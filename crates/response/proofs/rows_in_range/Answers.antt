use Rattle.std.proofs.Common.{◌∙◌, ap, rules, tests}
use Rattle.response.specs.Numbers.{rows_in, rows_in_range}
use Rattle.response.proofs.Laws.Numbers.{ranged_from_all}
use Rattle.response.proofs.rows_in_range.Goals as goal

pub returns : goal.returns
returns c =
    let made = c.chunks_exact.ensures in
    ranged_from_all _ _ _ (λ x b q k. search (rules, tests)) _ c.all.ensures.ran made.size
    ∙ ap (λ t. rows_in_range (rows_in t)) made.rest
