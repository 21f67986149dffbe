use Rattle.open_insert.proofs.Steps.{Moving}
use Rattle.open_insert.proofs.put_row.Given as goal

abbrev pub invariant-loop-k : goal.invariant-loop-k
invariant-loop-k l = Moving l.initial.store l.l l.at l.x l.j l.store l.channel l.place l.k
