-- Document 01, "Numbers given back on a refusal": "A refusal gives a number and a place." The checks of a call are a list, in the
-- order in which they run; the first failed one answers. One definition for every call, whatever its answer looks like.
use Rattle.std.specs.Prelude.{ℕ, Bool, true, false, List, [], ◌∷◌}
use Rattle.kinds.specs.declared.Refusal.{Refusal}
use Rattle.folds.specs.Folds.{every, first_not}

-- one check: whether it holds, and why the call is refused where it does not
pub record Check : Type 0 where
  pub holds : Bool
  pub refusal : Refusal

abbrev pub check : Refusal → (holds : Bool) → Check
check refusal holds = record { holds = holds; refusal = refusal }

-- a check at each place of the route; the refusal's place is the first at which it does not hold
abbrev pub check_all : (refusal : (place : ℕ) → Refusal) → (holds : ℕ → Bool) → (hops : ℕ) → Check
check_all refusal holds hops = record { holds = every holds hops; refusal = refusal (first_not holds hops) }

-- the first failed check answers, with its refusal; where all hold, `passed` does
unfoldable pub first_failed : {A : Type 0} → (refused : Refusal → A) → List Check → (passed : A) → A
first_failed refused [] passed = passed
first_failed refused (x ∷ rest) passed =
    elim x.holds [ true ↦ first_failed refused rest passed | false ↦ refused x.refusal ]
