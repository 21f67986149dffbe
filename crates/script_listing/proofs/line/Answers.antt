-- `script_listing::line` meets its contract: a line feed behind the phrase.
use Rattle.std.proofs.Common.{arith}
use Rattle.script_listing.proofs.Laws.Lengths.{phrase_length}
use Rattle.script_listing.proofs.Pieces.{line_put}
use Rattle.script_listing.proofs.line.Goals as goal

pub bounds-out-end : goal.bounds-out-end
bounds-out-end c = omega (arith, phrase_length c.args.word.now c.args.numbers.now)

pub overflow_add-result : goal.overflow_add-result
overflow_add-result c = omega (arith, phrase_length c.args.word.now c.args.numbers.now)

pub returns : goal.returns
returns c =
    let all = line_put _ _ c.args.word.now c.args.numbers.now c.requires _ _ c.put_phrase-end.ensures.value c.put_phrase-end.ensures.out_after in
    record { value = all.place; out_after = all.same }
