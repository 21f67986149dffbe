-- `script_line::begins` meets its contract: a word ends within its line.
use Rattle.std.proofs.Common.{arith, sym}
use Rattle.std.proofs.Math.Seq.{length-take-le}
use Rattle.text_decimal.proofs.Laws.Word.{word_most}
use Rattle.script_line.proofs.begins.Goals as goal

pub slice_bounds-eq-end : goal.slice_bounds-eq-end
slice_bounds-eq-end c = sym (length-take-le _ _ (omega (arith, word_most c.args.line.now)))
