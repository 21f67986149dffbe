-- A list of checks: the first that fails answers, whatever comes after it.
use Prim.Native.Nat.{ℕ, zero, suc}
use mathlib.Core.Path.{◌≡◌, refl, sym, ap, ◌∙◌}
use mathlib.Core.Bool.{Bool, true, false, ◌||◌}
use mathlib.Core.List.{List, [], ◌∷◌, ◌++◌}
use native.Mathlib.Omega.{arith}
use lib.Dec.{eqb}
use lib.ListN.{take, drop}
use borrow.Author.Tests.{eqb-false}
use Rattle.kinds.specs.declared.Refusal.{Refusal}
use Rattle.kinds.specs.Refusals.{number_of}
use Rattle.checks.specs.Checks.{Check, first_failed}

-- all of them hold
abbrev pub AllHold : List Check → Type 0
AllHold [] = Unit {0}
AllHold (x ∷ rest) = (x.holds ≡ true) × AllHold rest

pub hold_append : (front back : List Check) → AllHold (front ++ back) → AllHold front × AllHold back
hold_append [] back h = (tt, h)
hold_append (x ∷ front) back h = let r : _ = hold_append front back h.1 in ((h.0, r.0), r.1)

-- a caller that has got past the first k checks: one more that holds
pub one_more : {x : Check} {rest : List Check} (checks : List Check) (k : ℕ) → drop k checks ≡ x ∷ rest → AllHold (take k checks)
    → x.holds ≡ true → AllHold (take (suc k) checks)
one_more [] zero e h t = absurd (let n : ◌≡◌ {A = ℕ} 0 1 = cc in omega arith)
one_more [] (suc k) e h t = absurd (let n : ◌≡◌ {A = ℕ} 0 1 = cc in omega arith)
one_more {x} (y ∷ checks) zero e h t = (let s : y ≡ x = cc in rw s t, tt)
one_more (y ∷ checks) (suc k) e h t = (h.0, one_more checks k e h.1 t)

-- P holds of the refusal of each
module _ (P : Refusal → Type 0) where
  abbrev pub Each : List Check → Type 0
  Each [] = Unit {0}
  Each (x ∷ rest) = P x.refusal × Each rest

-- a refusal that no check of the list can give
abbrev pub Clear : Refusal → List Check → Type 0
Clear refusal [] = Unit {0}
Clear refusal (x ∷ rest) = (x.refusal ≡ refusal → x.holds ≡ true) × Clear refusal rest

-- where none of them has its number
abbrev pub mentions : Refusal → List Check → Bool
mentions refusal [] = false
mentions refusal (x ∷ rest) = eqb (number_of x.refusal) (number_of refusal) || mentions refusal rest

pub clear_other : (refusal : Refusal) (checks : List Check) → mentions refusal checks ≡ false → Clear refusal checks
clear_other refusal [] e = tt
clear_other refusal (x ∷ rest) e = go (eqb (number_of x.refusal) (number_of refusal)) refl e (clear_other refusal rest)
  where
    go : (t : Bool) → eqb (number_of x.refusal) (number_of refusal) ≡ t → (t || mentions refusal rest) ≡ false
        → (mentions refusal rest ≡ false → Clear refusal rest) → Clear refusal (x ∷ rest)
    go true h f r = absurd (let z : ◌≡◌ {A = ℕ} 0 1 = cc f in omega arith)
    go false h f r =
        ((λ n. absurd (eqb-false (number_of x.refusal) (number_of refusal) h (ap number_of n))), r f)

module _ {A : Type 0} (refused : Refusal → A) where
  pub failed_append : (front back : List Check) (passed : A)
      → first_failed refused (front ++ back) passed ≡ first_failed refused front (first_failed refused back passed)
  unfolding first_failed
  failed_append [] back passed = refl
  failed_append (x ∷ front) back passed = go x.holds refl (failed_append front back passed)
    where
      go : (t : Bool) → x.holds ≡ t
          → first_failed refused (front ++ back) passed ≡ first_failed refused front (first_failed refused back passed)
          → first_failed refused ((x ∷ front) ++ back) passed ≡ first_failed refused (x ∷ front) (first_failed refused back passed)
      go true h r = rw (h, first_failed) r
      go false h r = rw (h, first_failed)

  pub all_passed : (checks : List Check) (passed : A) → AllHold checks → first_failed refused checks passed ≡ passed
  unfolding first_failed
  all_passed [] passed h = refl
  all_passed (x ∷ rest) passed h = rw (h.0, first_failed) (all_passed rest passed h.1)

  pub fails_after : {x : Check} {rest : List Check} (checks : List Check) (k : ℕ) (passed : A) → drop k checks ≡ x ∷ rest
      → AllHold (take k checks) → x.holds ≡ false → refused x.refusal ≡ first_failed refused checks passed
  unfolding first_failed
  fails_after [] zero passed e h f = absurd (let n : ◌≡◌ {A = ℕ} 0 1 = cc in omega arith)
  fails_after [] (suc k) passed e h f = absurd (let n : ◌≡◌ {A = ℕ} 0 1 = cc in omega arith)
  fails_after {x} (y ∷ checks) zero passed e h f =
      let s : x ≡ y = cc in
      let g : y.holds ≡ false = rw s at f in
      rw (g, s, first_failed)
  fails_after (y ∷ checks) (suc k) passed e h f = rw (h.0, first_failed) (fails_after checks k passed e h.1 f)

  -- what an answer that is no refusal says of the checks
  pub accepted_all : (checks : List Check) (x y : A) → ((e : Refusal) → refused e ≡ y → ⊥) → first_failed refused checks x ≡ y
      → AllHold checks
  unfolding first_failed
  accepted_all [] x y apart e = tt
  accepted_all (z ∷ rest) x y apart e = go z.holds refl (accepted_all rest x y apart)
    where
      go : (t : Bool) → z.holds ≡ t → (first_failed refused rest x ≡ y → AllHold rest) → AllHold (z ∷ rest)
      go true h r = (h, r (rw (h, first_failed) at e))
      go false h r = absurd (apart z.refusal (rw (h, first_failed) at e))

  -- a refusal is that of one of the checks
  pub refused_one : (P : Refusal → Type 0) → ((m n : Refusal) → refused m ≡ refused n → m ≡ n)
      → (checks : List Check) (passed : A) (refusal : Refusal) → Each P checks → (refused refusal ≡ passed → ⊥)
      → first_failed refused checks passed ≡ refused refusal → P refusal
  unfolding first_failed
  refused_one P same [] passed refusal r apart e = absurd (apart (sym e))
  refused_one P same (x ∷ rest) passed refusal r apart e =
      go x.holds refl (refused_one P same rest passed refusal r.1 apart)
    where
      go : (t : Bool) → x.holds ≡ t → (first_failed refused rest passed ≡ refused refusal → P refusal) → P refusal
      go true h k = k (rw (h, first_failed) at e)
      go false h k =
          let s = same x.refusal refusal (rw (h, first_failed) at e) in
          rw s at r.0

  -- a refusal that no check gives comes from what was to be answered
  pub clear_passed : ((m n : Refusal) → refused m ≡ refused n → m ≡ n) → (refusal : Refusal) (checks : List Check) (passed : A)
      → Clear refusal checks → first_failed refused checks passed ≡ refused refusal
      → AllHold checks × (passed ≡ refused refusal)
  unfolding first_failed
  clear_passed same refusal [] passed c e = (tt, e)
  clear_passed same refusal (x ∷ rest) passed c e = go x.holds refl (clear_passed same refusal rest passed c.1)
    where
      go : (t : Bool) → x.holds ≡ t
          → (first_failed refused rest passed ≡ refused refusal → AllHold rest × (passed ≡ refused refusal))
          → AllHold (x ∷ rest) × (passed ≡ refused refusal)
      go true h r = let k : _ = r (rw (h, first_failed) at e) in ((h, k.0), k.1)
      go false h r =
          let n : x.refusal ≡ refusal = same x.refusal refusal (rw (h, first_failed) at e) in
          let t : true ≡ false = sym (c.0 n) ∙ h in
          absurd (let z : ◌≡◌ {A = ℕ} 0 1 = cc in omega arith)

-- The same checks asked for another kind of answer: the refusal is the same, whatever would have been answered.
pub refused_as : {A B : Type 0} (refused : Refusal → A) (refused' : Refusal → B) → ((m n : Refusal) → refused m ≡ refused n → m ≡ n)
    → (checks : List Check) (passed : A) (passed' : B) (refusal : Refusal) → (refused refusal ≡ passed → ⊥)
    → first_failed refused checks passed ≡ refused refusal → first_failed refused' checks passed' ≡ refused' refusal
unfolding first_failed
refused_as r r' same [] passed passed' refusal apart e = absurd (apart (sym e))
refused_as r r' same (x ∷ rest) passed passed' refusal apart e = go x.holds refl (refused_as r r' same rest passed passed' refusal apart)
  where
    go : (t : Bool) → x.holds ≡ t
        → (first_failed r rest passed ≡ r refusal → first_failed r' rest passed' ≡ r' refusal)
        → first_failed r' (x ∷ rest) passed' ≡ r' refusal
    go true h f = rw (h, first_failed) (f (rw (h, first_failed) at e))
    go false h f =
        let k = same x.refusal refusal (rw (h, first_failed) at e) in
        rw (h, first_failed, k)
