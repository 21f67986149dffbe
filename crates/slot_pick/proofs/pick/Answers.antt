use Rattle.std.proofs.Common.{◌<◌, ◌≡◌, ℕ, arith}
use Rattle.store.proofs.Laws.Rows.{Row}
use Rattle.slot_rules.specs.Head.{logical_of}
use Rattle.slot_rules.proofs.Laws.Rows.{place_holds, row_empty}
use Rattle.slot_pick.proofs.Rows.{Held}
use Rattle.slot_pick.proofs.Steps.{choosing_none, choosing_pass, choosing_soon, choosing_later, choosing_due, choosing_after}
use Rattle.slot_pick.proofs.Steps.{choosing_done}
use Rattle.slot_pick.proofs.pick.Goals as goal
use Rattle.slot_pick.proofs.pick.Goals.{then-sent-entered+then-logical-now+then-goes_before, then-sent-entered+then-logical-now+else-goes_before, then-sent-entered+else-logical-now+then-goes_before-2, then-sent-entered+else-logical-now+else-goes_before-2, else-sent-entered}

pub loop-k-init : goal.loop-k-init
loop-k-init c = choosing_none _ _

pub loop-k-preserved : goal.loop-k-preserved
loop-k-preserved c =
    let a = c.loop-k.invariant in
    let r : Row c.args.store.now c.args.l c.loop-k.k c.row_channel-x.result c.row_place-j.result = record {
      sound = c.link-link.ensures.sound;
      there = c.requires;
      below = grind arith;
      its_channel = rw c.link-link.ensures.value at c.row_channel-x.ensures;
      its_place = rw c.link-link.ensures.value at c.row_place-j.ensures;
    } in
    let held : (t : ℕ) → c.sent.result < c.entered.result → t ≡ logical_of c.args.store.now c.row_channel-x.result c.row_place-j.result
    → Held c.args.store.now c.args.l c.loop-k.k c.row_channel-x.result c.row_place-j.result c.clock-now.result t =
    λ t h e. record { row = r; held = place_holds r (rw c.channel-channel.ensures.value at c.sent.ensures) (rw c.channel-channel.ensures.value at c.entered.ensures) h; now_is = c.clock-now.ensures.value; time_is = e } in
    elim c.if-sent-entered.branch [
      | then-sent-entered+then-logical-now+then-goes_before w ↦
          rw (w.due-is, w.soon-is)
          (choosing_soon a (held _ w.if-sent-entered.true (rw c.channel-channel.ensures.value at w.logical-logical.ensures)) w.if-logical-now.true w.goes_before.ensures w.if-goes_before.true)
      | then-sent-entered+then-logical-now+else-goes_before w ↦
          rw (w.due-is, w.soon-is)
          (choosing_later a (held _ w.if-sent-entered.true (rw c.channel-channel.ensures.value at w.logical-logical.ensures)) w.if-logical-now.true w.goes_before.ensures w.if-goes_before.false)
      | then-sent-entered+else-logical-now+then-goes_before-2 w ↦
          rw (w.due-is, w.soon-is)
          (choosing_due a (held _ w.if-sent-entered.true (rw c.channel-channel.ensures.value at w.logical-logical.ensures)) w.if-logical-now.false (rw c.channel-channel.ensures.value at w.delay.ensures)
          w.goes_before-else-logical-now.ensures w.if-goes_before-2.true)
      | then-sent-entered+else-logical-now+else-goes_before-2 w ↦
          rw (w.due-is, w.soon-is)
          (choosing_after a (held _ w.if-sent-entered.true (rw c.channel-channel.ensures.value at w.logical-logical.ensures)) w.if-logical-now.false (rw c.channel-channel.ensures.value at w.delay.ensures)
          w.goes_before-else-logical-now.ensures w.if-goes_before-2.false)
      | else-sent-entered w ↦
          rw (w.due-is, w.soon-is) (choosing_pass a (row_empty r (rw c.channel-channel.ensures.value at c.sent.ensures) (rw c.channel-channel.ensures.value at c.entered.ensures) w.if-sent-entered.false))
    ]

pub returns : goal.returns
returns c =
    rw (choosing_done c.loop-k.invariant (grind arith)) c.chosen.ensures
