use Rattle.std.proofs.Common.{◌≡◌, ◌≤◌, ◌*◌, true}
use Rattle.store.specs.Ranged.{most_reserved}
use Rattle.store.specs.Sound.{row_sound, row_reserved_of}
use Rattle.folds.specs.Folds.{every, sum_to}
use Rattle.sound_rows.proofs.Laws.Walk.{delay_above, channel_above}
use Rattle.sound_rows.proofs.link_rows_sound.Given as goal

abbrev pub invariant-loop-k : goal.invariant-loop-k
invariant-loop-k l = record {
  passed : every (row_sound l.store l.l) l.k ≡ true;
  total : l.sum ≡ sum_to (row_reserved_of l.store l.l) l.k;
  small : l.sum ≤ most_reserved * l.k;
  delay : l.above ≡ delay_above l.store l.l l.k;
  channel : l.higher ≡ channel_above l.store l.l l.k;
}
