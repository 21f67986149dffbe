use Rattle.std.proofs.Common.{arith}
use Rattle.slot_move.proofs.Rows.{no_row, a_row}
use Rattle.slot_move.proofs.Sends.{sending_none, sending_pass, sending_more, sending_few, sending_size}
use Rattle.slot_move.proofs.report.Goals as goal
use Rattle.slot_move.proofs.report.Goals.{in-Some, in_default}

pub loop-l-init : goal.loop-l-init
loop-l-init c = sending_none _ _

pub put_send-requires-clause-picked : goal.put_send-requires-clause-picked
put_send-requires-clause-picked c = rw c.store-store.ensures (a_row c.in-Some.ensures)

pub put_send-requires-clause-room : goal.put_send-requires-clause-room
put_send-requires-clause-room c =
    grind (arith, sending_few c.loop-l.invariant, sending_size c.loop-l.invariant (grind arith))

pub overflow_add-n : goal.overflow_add-n
overflow_add-n c = omega (arith, sending_few c.loop-l.invariant)

pub loop-l-preserved : goal.loop-l-preserved
loop-l-preserved c =
    let v = c.loop-l.invariant in
    elim c.match-pick.branch [
      | in-Some w ↦
          rw (w.out-is, w.n-is)
          (sending_more v (grind arith) _ (a_row w.in-Some.ensures) (rw c.store-store.ensures at w.put_send.ensures))
      | in_default w ↦
          rw (w.out-is, w.n-is) (sending_pass v (no_row w.in_default.ensures))
    ]
