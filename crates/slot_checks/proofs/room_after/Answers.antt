use Rattle.slot_move.proofs.Rows.{no_row, a_row}
use Rattle.slot_checks.proofs.Room.{after_none, after_last, after_next}
use Rattle.slot_checks.proofs.room_after.Goals as goal

pub returns-in_default : goal.returns-in_default
returns-in_default c = after_none _ _ (no_row c.in_default.ensures)

pub returns-then-next-hops : goal.returns-then-next-hops
returns-then-next-hops c =
    let x = rw c.store-store.ensures at (rw c.link-link.ensures.value at c.row_channel-x.ensures) in
    let next = rw c.store-store.ensures at (rw c.link-link.ensures.value at c.row_place-next.ensures) in
    let hops = rw c.store-store.ensures at (rw c.channel.ensures.value at c.hops.ensures) in
    after_last _ _ _ _ _ _ (a_row c.in-Some.ensures) x next hops c.if-next-hops.true

pub returns-else-next-hops : goal.returns-else-next-hops
returns-else-next-hops c =
    let x = rw c.store-store.ensures at (rw c.link-link.ensures.value at c.row_channel-x.ensures) in
    let next = rw c.store-store.ensures at (rw c.link-link.ensures.value at c.row_place-next.ensures) in
    let hops = rw c.store-store.ensures at (rw c.channel.ensures.value at c.hops.ensures) in
    after_next _ _ _ _ _ _ (a_row c.in-Some.ensures) x next hops c.if-next-hops.false _ c.takes_packet.ensures
