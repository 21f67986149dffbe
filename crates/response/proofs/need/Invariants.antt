-- after each turn the sum and what the rows left ask for are the whole need
use Rattle.std.proofs.Common.{◌≡◌, ◌*◌}
use Rattle.std.specs.Slice.Iter.{chunks_exact_rest, chunks_exact_size}
use Rattle.kinds.specs.Ranges.{most_c, most_p}
use Rattle.response.specs.Need.{work}
use Rattle.response.proofs.Laws.Numbers.{Adding}
use Rattle.response.proofs.need.Given as goal

abbrev pub invariant-loop-row : goal.invariant-loop-row
invariant-loop-row l =
    (chunks_exact_size l.row-iterator ≡ 3)
    × Adding (λ rows. work rows l.r) (most_c * most_p) l.table l.own l.sum (chunks_exact_rest l.row-iterator)
