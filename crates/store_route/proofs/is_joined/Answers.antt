use Rattle.std.proofs.Common.{◌+◌, ◌-◌, arith}
use Rattle.store.specs.Route.{along}
use Rattle.store_route.proofs.Laws.{link_bound}
use Rattle.store_route.proofs.is_joined.Goals as goal

pub link-requires : goal.link-requires
link-requires c =
    link_bound c.args.store.now (along c.args.route.now) (c.args.j + 1) c.requires.few_links c.requires.known c.args.j (omega arith)

pub link-requires-2 : goal.link-requires-2
link-requires-2 c =
    link_bound c.args.store.now (along c.args.route.now) (c.args.j + 1) c.requires.few_links c.requires.known (c.args.j - 1)
    (omega arith)
