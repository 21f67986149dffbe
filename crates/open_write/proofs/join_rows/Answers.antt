use Rattle.open_write.proofs.Laws.{next_ready}
use Rattle.open_write.proofs.join_rows.Goals as goal

pub join_row-requires-clause-rows : goal.join_row-requires-clause-rows
join_row-requires-clause-rows c =
    rw c.loop-j.invariant (next_ready c.args.store.now _ _ c.requires _ c.loop-j-test.true)
