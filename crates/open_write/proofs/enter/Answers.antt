use Rattle.open_write.proofs.Laws.{written_ready}
use Rattle.open_write.proofs.enter.Goals as goal

pub join_rows-requires : goal.join_rows-requires
join_rows-requires c = rw c.put_channel.ensures (written_ready c.args.store.now _ _ _ c.requires)
