use Rattle.std.proofs.Common.{sym, arith}
use Rattle.folds.proofs.Folds.{every_more, sum_more}
use Rattle.store.proofs.Laws.Sound.{fit_rows}
use Rattle.sound_rows.proofs.Laws.Walk.{row_read, row_ranged, row_absent, row_early, row_full, row_good}
use Rattle.sound_rows.proofs.Laws.Walk.{row_reserved, row_most, delay_more, channel_more}
use Rattle.sound_rows.proofs.link_rows_sound.Goals as goal

pub returns-then-not-row_stands : goal.returns-then-not-row_stands
returns-then-not-row_stands c =
    let r = row_read c.args.l c.loop-k.k c.link-link.ensures.fits (grind arith)
    (rw c.link-link.ensures.value at c.row_channel-x.ensures) (rw c.link-link.ensures.value at c.row_place-j.ensures) in
    row_absent r (cc)

pub returns-then-not-row_follows : goal.returns-then-not-row_follows
returns-then-not-row_follows c =
    let i = c.loop-k.invariant in
    let r = row_read c.args.l c.loop-k.k c.link-link.ensures.fits (grind arith)
    (rw c.link-link.ensures.value at c.row_channel-x.ensures) (rw c.link-link.ensures.value at c.row_place-j.ensures) in
    row_early r (cc) i.delay i.channel (rw c.channel-channel.ensures.value at c.delay-delay.ensures) (cc)

pub reserved-reserved-requires-clause-ranged : goal.reserved-reserved-requires-clause-ranged
reserved-reserved-requires-clause-ranged c =
    let r = row_read c.args.l c.loop-k.k c.link-link.ensures.fits (grind arith)
    (rw c.link-link.ensures.value at c.row_channel-x.ensures) (rw c.link-link.ensures.value at c.row_place-j.ensures) in
    rw c.channel-channel.ensures.value (row_ranged r (cc))

pub returns-then-over : goal.returns-then-over
returns-then-over c =
    let i = c.loop-k.invariant in
    let r = row_read c.args.l c.loop-k.k c.link-link.ensures.fits (grind arith)
    (rw c.link-link.ensures.value at c.row_channel-x.ensures) (rw c.link-link.ensures.value at c.row_place-j.ensures) in
    row_full r (cc) i.delay i.channel (rw c.channel-channel.ensures.value at c.delay-delay.ensures) (cc) (rw c.channel-channel.ensures.value at c.held.ensures) (rw c.channel-channel.ensures.value at c.reserved-reserved.ensures) c.if-over.true

pub overflow_add-sum : goal.overflow_add-sum
overflow_add-sum c =
    let r = row_read c.args.l c.loop-k.k c.link-link.ensures.fits (grind arith)
    (rw c.link-link.ensures.value at c.row_channel-x.ensures) (rw c.link-link.ensures.value at c.row_place-j.ensures) in
    let few = fit_rows c.args.store.now c.link-link.ensures.fits c.args.l c.requires in
    record { fits = omega (arith, c.loop-k.invariant.small, row_most r (cc) (rw c.channel-channel.ensures.value at c.reserved-reserved.ensures), few) }

pub loop-k-preserved : goal.loop-k-preserved
loop-k-preserved c =
    let i = c.loop-k.invariant in
    let r = row_read c.args.l c.loop-k.k c.link-link.ensures.fits (grind arith)
    (rw c.link-link.ensures.value at c.row_channel-x.ensures) (rw c.link-link.ensures.value at c.row_place-j.ensures) in
    record {
      passed = every_more _ _ i.passed
          (row_good r (cc) i.delay i.channel (rw c.channel-channel.ensures.value at c.delay-delay.ensures) (cc) (rw c.channel-channel.ensures.value at c.held.ensures) (rw c.channel-channel.ensures.value at c.reserved-reserved.ensures) c.if-over.false);
      total = rw (i.total, row_reserved r (rw c.channel-channel.ensures.value at c.reserved-reserved.ensures)) (sym (sum_more _ c.loop-k.k));
      small = omega (arith, i.small, row_most r (cc) (rw c.channel-channel.ensures.value at c.reserved-reserved.ensures));
      delay = grind (arith, delay_more);
      channel = grind (arith, channel_more);
    }
