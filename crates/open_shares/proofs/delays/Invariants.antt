use Rattle.std.proofs.Common.{◌≡◌}
use Rattle.store.specs.Layout.{number_at}
use Rattle.open_rules.specs.Shares.{delays, eight}
use Rattle.open_shares.proofs.delays.Given as goal

abbrev pub invariant-loop-j : goal.invariant-loop-j
invariant-loop-j l = l.given ≡ eight (delays l.asked.p l.asked.d l.fn.way.hops (number_at l.responses)) l.j
