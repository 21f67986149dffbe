use Rattle.std.proofs.Common.{arith}
use Rattle.offer.proofs.Facts.{b_most, burst_fits}
use Rattle.offer.proofs.in_burst.Goals as goal

pub overflow_mul-result : goal.overflow_mul-result
overflow_mul-result c =
    let s = c.channel-channel.ensures.sound in
    let k = c.requires.known in
    let b = rw c.channel-channel.ensures.value at c.b.ensures in
    burst_fits _ s _ k (omega (arith, b, b_most _ s _ k)) (rw c.channel-channel.ensures.value at c.p.ensures)
