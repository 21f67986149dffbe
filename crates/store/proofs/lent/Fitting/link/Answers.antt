use Rattle.std.proofs.Common.{arith}
use Rattle.store.specs.Ranged.{Fit}
use Rattle.store.proofs.Laws.Sound.{fit_counts}
use Rattle.store.proofs.lent.Fitting.link.Goals as goal

pub link-requires : goal.link-requires
link-requires c =
    let f : Fit c.args.self.now = rw c.self.view_is at c.self.invariant in
    omega (arith, (fit_counts c.args.self.now f).links_most)
