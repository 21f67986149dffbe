use Rattle.slot_move.proofs.Rows.{no_row, a_row}
use Rattle.slot_checks.proofs.Room.{leaves_none, leaves_row}
use Rattle.slot_checks.proofs.leaves.Goals as goal

pub returns-in_default : goal.returns-in_default
returns-in_default c =
    let here = rw c.store-store.ensures at (rw c.channel.ensures.value at c.link-l.ensures) in
    leaves_none _ _ _ _ here (no_row c.in_default.ensures)

pub returns : goal.returns
returns c =
    let here = rw c.store-store.ensures at (rw c.channel.ensures.value at c.link-l.ensures) in
    let row = rw c.store-store.ensures at (rw c.link.ensures.value at c.row_channel.ensures) in
    leaves_row _ _ _ _ here _ _ (a_row c.in-Some.ensures) row
