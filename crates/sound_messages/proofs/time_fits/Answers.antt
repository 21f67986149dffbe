use Rattle.std.proofs.Common.{◌≡◌, ◌-◌, sym, arith, tests}
use Rattle.store.specs.Layout.{hops_of, messages_of, time_of}
use Rattle.store.proofs.Laws.Sound.{is_time, offset_most}
use Rattle.sound_messages.proofs.time_fits.Goals as goal

pub returns-then-time-le-EARLY : goal.returns-then-time-le-EARLY
returns-then-time-le-EARLY c =
    let w = c.args.channel.now.store in
    let x = c.args.channel.now.x in
    let few = offset_most w x (hops_of w x - 1) (λ i l. c.requires.small_delays i (omega arith)) (omega arith) in
    let time : c.time-time.result ≡ time_of w x (messages_of w x) = rw c.requires.n_value at c.time-time.ensures in
    sym (is_time w x (λ some. omega (arith, few, time)))

pub overflow_add-last : goal.overflow_add-last
overflow_add-last c =
    let w = c.args.channel.now.store in
    let x = c.args.channel.now.x in
    let few = offset_most w x (hops_of w x - 1) (λ i l. c.requires.small_delays i (omega arith)) (omega arith) in
    let offset = rw c.hops.ensures at c.offset.ensures in
    record { fits = grind (arith, tests, few, offset) }
