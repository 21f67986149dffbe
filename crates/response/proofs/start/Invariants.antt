-- after each turn the length and the C of the rows left are the whole start
use Rattle.std.proofs.Common.{◌≡◌}
use Rattle.std.specs.Slice.Iter.{chunks_exact_rest, chunks_exact_size}
use Rattle.kinds.specs.Ranges.{most_c}
use Rattle.response.specs.Need.{packets}
use Rattle.response.proofs.Laws.Numbers.{Adding}
use Rattle.response.proofs.start.Given as goal

abbrev pub invariant-loop-row : goal.invariant-loop-row
invariant-loop-row l =
    (chunks_exact_size l.row-iterator ≡ 3) × Adding packets most_c l.table l.own l.length (chunks_exact_rest l.row-iterator)
