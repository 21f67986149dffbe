use Rattle.std.proofs.Common.{sym, arith}
use Rattle.store.proofs.Laws.Rows.{Row}
use Rattle.slot_rules.proofs.Laws.Rows.{row_holds_lem, row_empty}
use Rattle.slot_rules.specs.Pick.{row_held}
use Rattle.slot_wait.specs.Least.{wait_of}
use Rattle.slot_wait.proofs.Least.{least_held, least_pass}
use Rattle.slot_wait.proofs.Steps.{row_wait}
use Rattle.slot_wait.proofs.wait_on.Goals as goal
use Rattle.slot_wait.proofs.wait_on.Goals.{then-sent-entered, else-sent-entered}

pub loop-k-preserved : goal.loop-k-preserved
loop-k-preserved c =
    let r : Row c.args.store.now c.args.l c.loop-k.k c.row_channel-x.result c.row_place-j.result = record {
      sound = c.link-link.ensures.sound;
      there = c.requires;
      below = grind arith;
      its_channel = rw c.link-link.ensures.value at c.row_channel-x.ensures;
      its_place = rw c.link-link.ensures.value at c.row_place-j.ensures;
    } in
    let x = rw c.channel-channel.ensures.value at c.sent.ensures in
    let y = rw c.channel-channel.ensures.value at c.entered.ensures in
    elim c.if-sent-entered.branch [
      | then-sent-entered w ↦
          let e = row_wait r c.clock.ensures.value (rw c.link-link.ensures.value at c.horizon.ensures) (rw c.channel-channel.ensures.value at w.logical.ensures) w.saturating_sub-wait.ensures in
          omega (
            arith,
            w.least-is,
            w.min-least.ensures,
            e,
            c.loop-k.invariant,
            least_held (row_held c.args.store.now c.args.l) (wait_of c.args.store.now c.args.l) c.args.most c.loop-k.k (row_holds_lem r x y w.if-sent-entered.true),
          )
      | else-sent-entered w ↦
          rw (w.least-is, c.loop-k.invariant) (sym (least_pass _ _ _ _ (row_empty r x y w.if-sent-entered.false)))
    ]
