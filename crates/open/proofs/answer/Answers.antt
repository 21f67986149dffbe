use Rattle.std.proofs.Common.{◌∙◌, ap}
use Rattle.open_rules.specs.Open.{open_answer}
use Rattle.open.proofs.Outcome.{answer_refused}
use Rattle.open.proofs.Early.{request, refused_early, passed_asks, passed_on}
use Rattle.open.proofs.answer.Goals as goal

pub late-requires : goal.late-requires
late-requires c =
    passed_on c.args.store.now (request c.args.c c.args.p c.args.d c.args.b c.args.route.now) c.in-Ok.ensures

pub returns-in-Ok : goal.returns-in-Ok
returns-in-Ok c =
    let w = c.args.store.now in
    let q = request c.args.c c.args.p c.args.d c.args.b c.args.route.now in
    c.late.ensures ∙ ap (open_answer w) (passed_asks w q c.in-Ok.ensures)

pub returns-in-Err : goal.returns-in-Err
returns-in-Err c =
    let w = c.args.store.now in
    let q = request c.args.c c.args.p c.args.d c.args.b c.args.route.now in
    c.refused.ensures ∙ answer_refused w q (refused_early w q c.in-Err.ensures)
