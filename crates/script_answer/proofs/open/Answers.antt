use Prim.Native.Nat.{◌+◌, ◌-◌}
use mathlib.Core.Path.{◌≡◌}
use native.Mathlib.Omega.{arith}
use Rattle.script_answer.proofs.Opened.{opened_few}
use Rattle.script_answer.proofs.open.Goals as goal

pub channel-requires-clause-hops_bound : goal.channel-requires-clause-hops_bound
channel-requires-clause-hops_bound c =
    let e : 4 + c.args.hops - 4 ≡ c.args.hops = omega arith in
    opened_few _ _ _ _ c.requires.route (rw e at c.open-opening.ensures.value) c.in-Ok.is
