use Rattle.std.proofs.Common.{arith, ◌≡◌, true}
use Rattle.store.specs.Sound.{sound_of}
use Rattle.store.proofs.Laws.Sound.{sound_is}
use Rattle.store.proofs.lent.Sound.channel.Goals as goal

pub channel-requires : goal.channel-requires
channel-requires c =
    let s : sound_of c.args.self.now ≡ true = rw c.self.view_is at c.self.invariant in
    omega (arith, (sound_is c.args.self.now s).counts.channels_most)
