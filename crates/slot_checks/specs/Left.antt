-- What a look at a slot leaves in the lent array: what the links pick, once 17, 14 and 15 are passed; before that, what it held.
use Rattle.std.specs.Prelude.{ℕ, List, take}
use Rattle.std.specs.declared.option.Option.{Option}
use Rattle.store.specs.Layout.{Store, links_of}
use Rattle.checks.specs.Checks.{first_failed}
use Rattle.slot_rules.specs.Slot.{slot_checks}
use Rattle.slot_pick.specs.Picks.{picks_to}

abbrev pub picks_left : Store → (size : ℕ) → (held : List (Option ℕ)) → List (Option ℕ)
picks_left w size held = first_failed (λ refusal. held) (take 3 (slot_checks w size)) (picks_to w (links_of w))
