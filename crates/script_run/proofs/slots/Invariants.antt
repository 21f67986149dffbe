use Rattle.std.proofs.Common.{◌≡◌, ◌≤◌, ℕ, List}
use Rattle.text_decimal.specs.Decimal.{Text}
use Rattle.script_listing.specs.Buffer.{buffer_length}
use Rattle.script_run.specs.Run.{owed}
use Rattle.script_run.proofs.Rest.{pending}
use Rattle.script_run.proofs.slots.Given as goal

abbrev pub invariant-loop-after : goal.invariant-loop-after
invariant-loop-after l = record {
  same : (links text : List ℕ) → (rest : Text)
      → owed l.fn.out l.fn.run l.fn.store links text rest ≡ owed l.out l.after l.store links text rest;
  fits : l.after.at ≤ buffer_length;
  line : (l.after.length ≡ l.fn.run.length) × (l.after.from ≡ l.fn.run.from);
}

-- each piece leaves fewer slots, or none
abbrev pub decreases-loop-after : goal.decreases-loop-after
decreases-loop-after l = pending l.after.next
