use Rattle.std.proofs.Common.{◌-◌, ◌≡◌, ◌≤◌, ◌++◌, length, drop, None}
use Rattle.text_decimal.specs.Decimal.{Text}
use Rattle.text_lines.specs.Lines.{most_kept}
use Rattle.script_listing.specs.Buffer.{buffer_length, last_for_slot}
use Rattle.script_run.specs.Run.{owed}
use Rattle.script_run.proofs.lines.Given as goal

abbrev pub invariant-loop-after : goal.invariant-loop-after
invariant-loop-after l = record {
  same : (more : Text)
      → owed l.fn.out l.fn.run l.fn.store l.fn.links l.fn.text (drop l.fn.run.from l.chunk ++ more)
      ≡ owed l.out l.after l.store l.links l.text (drop l.after.from l.chunk ++ more);
  no_tick : l.after.at ≤ last_for_slot → l.after.next ≡ None;
  kept : l.after.length ≤ most_kept;
  fits : l.after.at ≤ buffer_length;
}

abbrev pub decreases-loop-after : goal.decreases-loop-after
decreases-loop-after l = length l.chunk - l.after.from
