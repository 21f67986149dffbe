-- `text_lines::gather` meets its contract: `position` finds the line feed, and what fits in front of it is kept.
use Rattle.std.proofs.Common.{◌≡◌, ◌∙◌, ◌-◌, drop, take, length, arith, rules, tests}
use Rattle.std.proofs.lemmas.Iterator.{YieldsList-from_slice}
use Rattle.std.proofs.lemmas.Iterator.Search.{position_from_yields_List}
use Rattle.std.proofs.lemmas.Slice.{between_to_end}
use Rattle.std.specs.List.{position}
use Rattle.text_lines.proofs.Gathering.{is_feed, gathered_value, line_kept}
use Rattle.text_lines.proofs.gather.Goals as goal
use Rattle.text_lines.proofs.gather.Goals.{After-from}

-- what is looked through is the chunk from `from` on
rest : (c : After-from) → take (length c.args.chunk.now - c.args.from) (drop c.args.from c.args.chunk.now) ≡ drop c.args.from c.args.chunk.now
rest c = between_to_end c.args.chunk.now c.args.from (length c.args.chunk.now) (omega arith)

feed : (c : After-from) → c.position-feed.result ≡ position is_feed (drop c.args.from c.args.chunk.now)
feed c =
    position_from_yields_List is_feed _ _ _ c.position-feed.ensures.ran
    (YieldsList-from_slice (drop c.args.from c.args.chunk.now) (c.iter.ensures.rest ∙ rest c)) (λ x b q k. search (rules, tests))

pub returns-clause-value : goal.returns-clause-value
returns-clause-value c =
    let end = c.unwrap_or.ensures in
    let kept = c.min-kept.ensures in
    rw (rest c)
    (gathered_value _ _ (feed c) c.args.line.now c.args.before c.args.from c.requires.before_le_most_kept _ _ (rw (rest c) at end)
    c.is_some-whole.ensures _ _ c.from.ensures (rw (rest c) at kept))

pub returns-clause-line_after : goal.returns-clause-line_after
returns-clause-line_after c =
    let end = c.unwrap_or.ensures in
    let kept = c.min-kept.ensures in
    let part = c.copy_from_slice.ensures.after in
    line_kept _ _ (feed c) c.args.line.now c.args.before c.args.from c.requires.before_le_most_kept _ _ (rw (rest c) at end)
    c.is_some-whole.ensures _ _ _ (rw (rest c) at kept) (omega arith) (rw (rest c) at part)
