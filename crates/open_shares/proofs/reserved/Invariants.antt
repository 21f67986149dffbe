use Rattle.std.proofs.Common.{◌≡◌}
use Rattle.store.specs.Layout.{number_at}
use Rattle.store.specs.Route.{along}
use Rattle.store.specs.Amounts.{reserved_along}
use Rattle.open_rules.specs.Shares.{eight}
use Rattle.open_shares.proofs.reserved.Given as goal

abbrev pub invariant-loop-j : goal.invariant-loop-j
invariant-loop-j l =
    l.packets ≡ eight (reserved_along l.store l.asked.c l.asked.p l.asked.b (along l.route) (number_at l.delays)) l.j
