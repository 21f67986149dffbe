use Rattle.std.proofs.Common.{arith}
use Rattle.store.specs.Ranged.{Fit}
use Rattle.store.proofs.Laws.Sound.{fit_counts}
use Rattle.store.proofs.lent.Fitting.channel.Goals as goal

pub channel-requires : goal.channel-requires
channel-requires c =
    let f : Fit c.args.self.now = rw c.self.view_is at c.self.invariant in
    omega (arith, (fit_counts c.args.self.now f).channels_most)
