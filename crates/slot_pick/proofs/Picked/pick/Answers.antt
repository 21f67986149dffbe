use Rattle.std.proofs.Common.{◌≡◌, ℕ, List, arith}
use Rattle.std.specs.declared.option.Option.{Option}
use Rattle.store.specs.Layout.{Store}
use Rattle.slot_rules.proofs.Laws.Ready.{link_small, links_few}
use Rattle.slot_pick.specs.Picks.{Picks}
use Rattle.slot_pick.proofs.Laws.{picks_at}
use Rattle.slot_pick.proofs.Picked.pick.Goals as goal

-- the picks are those of the store that the clause names
these : {w s : Store} {picks : List (Option ℕ)} → s ≡ w → Picks s picks → Picks w picks
these e k = rw (← e) k

pub offset_bounds-picks-l : goal.offset_bounds-picks-l
offset_bounds-picks-l c = omega (arith, link_small _ (these c.self.view_is c.self.invariant).sound _ c.requires)

pub bounds-picks-l : goal.bounds-picks-l
bounds-picks-l c = omega (arith, link_small _ (these c.self.view_is c.self.invariant).sound _ c.requires)

pub returns : goal.returns
returns c =
    let k : Picks c.args.self.now c.self.inside.picks.now = these c.self.view_is c.self.invariant in
    rw k.all (picks_at _ _ c.args.l _ c.requires (links_few _ k.sound))
