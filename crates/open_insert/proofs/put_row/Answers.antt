use Rattle.open_insert.proofs.Steps.{moving_none, moving_more}
use Rattle.open_insert.proofs.put_row.Goals as goal

pub loop-k-init : goal.loop-k-init
loop-k-init c = moving_none _ _ _ _ _

pub loop-k-preserved : goal.loop-k-preserved
loop-k-preserved c =
    let more = moving_more _ _ _ _ _ c.loop-k.invariant c.loop-k.auto.k in
    rw (c.put_row_place.ensures, c.put_row_channel.ensures, c.row_channel-next_channel.ensures, c.row_place-next_place.ensures, c.new-link.ensures) more
