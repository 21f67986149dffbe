use Rattle.std.proofs.Common.{◌∙◌, ap}
use Rattle.open_write.proofs.Laws.{early_enterable}
use Rattle.open.proofs.Outcome.{outcome_of, store_refused}
use Rattle.open.proofs.Early.{request}
use Rattle.open.proofs.Laws.{accepted_number, accepted_early, accepted_written}
use Rattle.open.proofs.open.Goals as goal

pub enter-requires : goal.enter-requires
enter-requires c =
    let w = c.args.store.now in
    let q = request c.args.c c.args.p c.args.d c.args.b c.args.route.now in
    let a = outcome_of w q c.answer-opening.ensures c.in-Ok.is in
    rw (accepted_number w q _ a) (early_enterable w q (accepted_early w q _ a))

pub returns-in-Ok-clause-store_after : goal.returns-in-Ok-clause-store_after
returns-in-Ok-clause-store_after c =
    let w = c.args.store.now in
    let q = request c.args.c c.args.p c.args.d c.args.b c.args.route.now in
    let a = outcome_of w q c.answer-opening.ensures c.in-Ok.is in
    c.enter.ensures ∙ accepted_written w q _ a _ (ap (λ o. o.delays) c.answer-opening.ensures)

pub returns-in_default-clause-store_after : goal.returns-in_default-clause-store_after
returns-in_default-clause-store_after c =
    let w = c.args.store.now in
    let q = request c.args.c c.args.p c.args.d c.args.b c.args.route.now in
    store_refused w q (outcome_of w q c.answer-opening.ensures c.in_default.is)
