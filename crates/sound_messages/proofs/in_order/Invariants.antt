use Rattle.std.proofs.Common.{◌≡◌, ◌≤◌, ◌-◌, ◌%◌}
use Rattle.store.specs.Layout.{ring}
use Rattle.store.specs.Amounts.{delivered_of}
use Rattle.store.specs.Sound.{in_order}
use Rattle.sound_messages.proofs.in_order.Given as goal

abbrev pub invariant-loop-back : goal.invariant-loop-back
invariant-loop-back l = record {
  sent_is : l.sent ≡ delivered_of l.channel.store l.channel.x;
  reached : l.back ≤ l.last;
  place : l.at ≡ (l.last - l.back) % ring;
  same : in_order l.channel.store l.channel.x l.last l.most ≡ in_order l.channel.store l.channel.x (l.last - l.back) (l.most - l.back);
}
