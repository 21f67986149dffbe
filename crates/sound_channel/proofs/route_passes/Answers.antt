use Rattle.std.proofs.Common.{length-take-le, arith}
use mathlib.Core.Path.{◌∙◌}
use Rattle.sound_channel.proofs.Laws.{route_read}
use Rattle.sound_channel.proofs.route_passes.Goals as goal

pub returns : goal.returns
returns c =
    c.passes.ensures
    ∙ route_read c.args.channel.now.store c.args.channel.now.x c.args.n c.requires.n_le_most_hops c.store.ensures c.route.ensures
    (length-take-le c.args.n c.route.result (omega arith))
