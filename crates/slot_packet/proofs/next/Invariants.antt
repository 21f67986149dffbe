-- the messages passed end above the packet, so those left decide
use Rattle.slot_packet.proofs.Laws.{Looking}
use Rattle.slot_packet.proofs.next.Given as goal

abbrev pub invariant-loop : goal.invariant-loop
invariant-loop l = Looking l.channel.store l.channel.x l.j l.sent l.n l.at l.counter
