-- a turn writes the row that it has read
use Rattle.std.proofs.Common.{arith}
use Rattle.store.proofs.Laws.Sound.{sound_is}
use Rattle.open_rules.proofs.Laws.Ranged.{rows_most}
use Rattle.open_search.proofs.Table.{written_none, written_more}
use Rattle.open_search.proofs.put_rows.Goals as goal

pub loop-k-init : goal.loop-k-init
loop-k-init c =
    let s = sound_is _ c.link-link.ensures.sound in
    (s, grind (arith, rows_most _ s _ c.requires, c.rows-k-end.ensures), written_none _ _ _)

pub loop-k-preserved : goal.loop-k-preserved
loop-k-preserved c =
    let i = c.loop-k.invariant in (
      i.0,
      i.1,
      written_more _ _ _ _ _ _ _ _ _ _ i.2 (rw c.link-link.ensures.value at c.row_channel-x.ensures)
          (rw c.link-link.ensures.value at c.row_place-j.ensures) (rw c.channel-channel.ensures.value at c.c.ensures)
          (rw c.channel-channel.ensures.value at c.p.ensures) (rw c.channel-channel.ensures.value at c.delay.ensures),
    )
