-- What is kept of the best row so far, if there is one: its number, its key and its channel.
use Rattle.std.specs.Prelude.{ℕ, suc, ◌≡◌, Bool, true, ◌&&◌, ◌||◌, eqb, ltb}
use Rattle.std.specs.declared.option.Option.{Option}
use Rattle.std.specs.declared.option.Option.TheVariants.{None, Some}
use Rattle.store.specs.Layout.{Store}
use Rattle.slot_rules.specs.Pick.{row_logical}
use Rattle.slot_pick.specs.declared.Candidate.{Candidate}

-- a row goes before the best so far: `goes_before`, on these numbers
abbrev pub goes_first : (next : Candidate) → (best : Option Candidate) → Bool
goes_first next None = true
goes_first next (Some best) = ltb next.key best.key || (eqb next.key best.key && ltb next.channel best.channel)

-- its position, counted from 1, 0 for none
abbrev pub position_of : Option Candidate → ℕ
position_of None = 0
position_of (Some best) = suc best.row

-- its key is the logical time of the row
abbrev pub Timed : Store → (l : ℕ) → (soon : Option Candidate) → Type 0
Timed w l soon = (c : Candidate) → soon ≡ Some c → c.key ≡ row_logical w l c.row
