-- the message's time and the delays before it, both far from 2 ^ 64
use Rattle.std.proofs.Common.{◌≡◌, ◌+◌, arith}
use Rattle.slot_rules.specs.Head.{logical_of}
use Rattle.slot_packet.proofs.Laws.{logical_is, logical_most}
use Rattle.slot_packet.proofs.logical.Goals as goal

pub overflow_add-result : goal.overflow_add-result
overflow_add-result c =
    let r = c.requires in
    let e : c.time_in.result + c.offset.result ≡ logical_of c.args.channel.now.store c.args.channel.now.x c.args.j =
    logical_is _ _ _ _ _ _ c.next-found.ensures c.time_in.ensures c.offset.ensures in
    omega (arith, e, logical_most _ r.sound _ _ r.known r.on_route r.held)

pub returns : goal.returns
returns c = logical_is _ _ _ _ _ _ c.next-found.ensures c.time_in.ensures c.offset.ensures
