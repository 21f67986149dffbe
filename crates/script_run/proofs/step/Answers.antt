use mathlib.Core.Path.{◌≡◌, ◌∙◌}
use mathlib.Core.List.{[]}
use borrow.Author.Rules.{rules}
use borrow.Author.Tests.{tests}
use lib.ListN.{length}
use Rattle.script_run.proofs.Steps.{end_goes}
use Rattle.script_run.proofs.step.Goals as goal

pub returns-then-is_empty-clause-goes : goal.returns-then-is_empty-clause-goes
returns-then-is_empty-clause-goes c =
    let none : length c.args.chunk.now ≡ 0 = search (rules, tests) in
    let end = c.end.ensures in
    end_goes _ _ _ _ _ none (c.begin-begun.ensures.same _ [] ∙ end.same) end.full end.no_chunk end.over
