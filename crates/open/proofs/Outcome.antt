-- From the checks to the answer and the store after it.
use Prim.Native.Nat.{ℕ}
use mathlib.Core.Path.{◌≡◌, refl, sym, ap, ◌∙◌}
use mathlib.Core.Bool.{false}
use mathlib.Core.List.{List, ◌∷◌}
use lib.ListN.{take, drop}
use Rattle.store.specs.Layout.{Store, channels_of}
use Rattle.checks.specs.Checks.{Check, first_failed}
use Rattle.checks.proofs.Laws.{AllHold, failed_append, all_passed, fails_after, refused_as}
use Rattle.kinds.specs.declared.Refusal.{Refusal}
use Rattle.std.specs.declared.result.Result.{Result}
use Rattle.std.specs.declared.result.Result.TheVariants.{Ok, Err}
use Rattle.open_rules.specs.declared.Opening.{Opening}
use Rattle.open_rules.specs.Request.{Request}
use Rattle.open_rules.specs.Refusal.{early_checks, late_checks, opened}
use Rattle.open_rules.specs.Open.{refusal, answer_on, open_outcome, open_answer, open_store}

module _ (w : Store) (q : Request) where
  -- the answer has the outcome
  pub outcome_is : (open_answer w q).outcome ≡ open_outcome w q
  unfolding open_answer
  outcome_is = go (open_outcome w q) refl
    where
      go : (o : Result ℕ Refusal) → open_outcome w q ≡ o → (open_answer w q).outcome ≡ open_outcome w q
      go (Ok x) e = rw (e, open_answer)
      go (Err why) e = rw (e, open_answer)

  pub outcome_of : {a : Opening} {o : Result ℕ Refusal} → a ≡ open_answer w q → a.outcome ≡ o → open_outcome w q ≡ o
  outcome_of e f = sym outcome_is ∙ sym (ap (λ a. a.outcome) e) ∙ f

  -- a refusal
  module _ {why : Refusal} (e : open_outcome w q ≡ Err why) where
    pub answer_refused : refusal why ≡ open_answer w q
    unfolding open_answer
    answer_refused = rw (e, open_answer)

    pub store_refused : w ≡ open_store w q
    unfolding open_store
    store_refused = rw (e, open_store)

  -- a yes
  module _ {x : ℕ} (e : open_outcome w q ≡ Ok x) where
    pub answer_accepted : answer_on (Ok x) w q ≡ open_answer w q
    unfolding open_answer
    answer_accepted = rw (e, open_answer)

    pub store_accepted : opened w q ≡ open_store w q
    unfolding open_store
    store_accepted = rw (e, open_store)

  -- where one of 17, 14 and 1 to 7 fails
  pub early_refused : {A : Type 0} {passed : Result A Refusal} (why : Refusal) → (Err why ≡ passed → ⊥)
      → first_failed Err (early_checks w q) passed ≡ Err why → open_outcome w q ≡ Err why
  unfolding open_outcome
  early_refused {A} {passed} why apart e =
      failed_append Err (early_checks w q) (late_checks w q) _
      ∙ refused_as {A = Result A Refusal} Err Err (λ m n f. cc) (early_checks w q) passed _ why apart e

  -- where they hold, the others decide
  module _ (early : AllHold (early_checks w q)) where
    late_decides : open_outcome w q ≡ first_failed Err (late_checks w q) (Ok (channels_of w))
    unfolding open_outcome
    late_decides = failed_append Err (early_checks w q) (late_checks w q) _ ∙ all_passed Err (early_checks w q) _ early

    pub late_refused : {x : Check} {rest : List Check} (k : ℕ) → drop k (late_checks w q) ≡ x ∷ rest
        → AllHold (take k (late_checks w q)) → x.holds ≡ false → open_outcome w q ≡ Err x.refusal
    late_refused k e h f = late_decides ∙ sym (fails_after Err (late_checks w q) k _ e h f)

    pub all_accepted : AllHold (late_checks w q) → open_outcome w q ≡ Ok (channels_of w)
    all_accepted late = late_decides ∙ all_passed Err (late_checks w q) _ late
