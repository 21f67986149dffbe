-- What it means that a contract leaves no choice: any two outcomes that it permits are equal.
use Rattle.std.specs.Prelude.{◌≡◌}
use contract.Lifetimes.{Lfts}
use denote.Triple.Entry.{Args, Res}
use denote.Triple.Clauses.{Ended, Lasts, AtExit, at_exit}

-- what a contract may say: something of the arguments, the answer, and the arguments as they are afterwards
abbrev pub Says : Ended → Type 1
Says T = (κs : Lfts T.signature.lifetimes) → Args T.signature κs → Res T.signature κs → AtExit T κs → Type 0

-- An outcome that it permits: the answer, and what each buffer that was lent to be written holds afterwards.
pub record Permitted (T : Ended) (says : Says T) (κs : Lfts T.signature.lifetimes) (a : Args T.signature κs) : Type 0 where
  pub answer : Res T.signature κs
  pub last : Lasts T κs a
  pub meets : says κs a answer (at_exit T κs a last)

abbrev pub Unique : (T : Ended) → Says T → Type 0
Unique T says =
    (κs : Lfts T.signature.lifetimes) (a : Args T.signature κs) (x y : Permitted T says κs a)
    → (x.answer ≡ y.answer) × (x.last ≡ y.last)
