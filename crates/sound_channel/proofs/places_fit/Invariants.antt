use Rattle.std.proofs.Common.{◌≡◌, true}
use Rattle.folds.specs.Folds.{every}
use Rattle.store.specs.Amounts.{entered_of}
use Rattle.store.specs.Sound.{place_fits}
use Rattle.sound_channel.proofs.places_fit.Given as goal

abbrev pub invariant-loop-j : goal.invariant-loop-j
invariant-loop-j l = record {
  come : l.entered ≡ entered_of l.channel.store l.channel.x l.j;
  passed : every (place_fits l.channel.store l.channel.x) l.j ≡ true;
}
