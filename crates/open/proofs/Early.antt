-- What the checks before the search leave: where they are passed, the number of the new channel and the request, as values.
use Prim.Native.Nat.{ℕ}
use mathlib.Core.Path.{◌≡◌, sym, subst, ◌∙◌}
use mathlib.Core.List.{List}
use native.Mathlib.Omega.{arith}
use Rattle.std.specs.declared.result.Result.{Result}
use Rattle.std.specs.declared.result.Result.TheVariants.{Ok, Err}
use Rattle.kinds.specs.declared.Refusal.{Refusal}
use Rattle.store.specs.Layout.{Store, channels_of}
use Rattle.checks.specs.Checks.{first_failed}
use Rattle.checks.proofs.Laws.{AllHold, accepted_all, all_passed}
use Rattle.open_checks.specs.declared.Passed.{Passed as CheckedRequest}
use Rattle.open_rules.specs.Request.{Request, hops}
use Rattle.open_rules.specs.Asked.{asking}
use Rattle.open_rules.specs.Refusal.{early_checks}
use Rattle.open_rules.specs.Open.{open_outcome}
use Rattle.open.specs.Passed.{Passed}
use Rattle.open.proofs.Outcome.{early_refused}

abbrev pub request : (c p d b : ℕ) → List ℕ → Request
request c p d b route = record { c = c; p = p; d = d; b = b; route = route }

-- what `open_checks::early` answers
abbrev checked : Request → Store → CheckedRequest
checked q w = record {
  channel = channels_of w;
  asked = record { c = q.c; p = q.p; d = q.d; b = q.b };
  way = record { hops = hops q };
}

abbrev pub found : Store → Request → Result CheckedRequest Refusal
found w q = first_failed Err (early_checks w q) (Ok (checked q w))

-- a refusal is no pass
apart : {p : CheckedRequest} (why : Refusal) → Err why ≡ Ok p → ⊥
apart why e = let z : ◌≡◌ {A = ℕ} 0 1 = cc e in omega arith

pub refused_early : (w : Store) (q : Request) {why : Refusal} → Err why ≡ found w q → open_outcome w q ≡ Err why
refused_early w q e = early_refused w q _ (apart _) (sym e)

module _ (w : Store) (q : Request) {p : CheckedRequest} (e : Ok p ≡ found w q) where
  holds : AllHold (early_checks w q)
  holds = accepted_all Err _ _ _ apart (sym e)

  same : ◌≡◌ {A = Result CheckedRequest Refusal} (Ok (checked q w)) (Ok p)
  same = sym (all_passed Err (early_checks w q) _ holds) ∙ sym e

  is : checked q w ≡ p
  is = cc (same)

  pub passed_asks : asking p.asked q.route ≡ q
  passed_asks = rw (← is)

  pub passed_on : Passed w p q.route
  passed_on = record {
    early =
        subst (λ (y : Request). first_failed Err (early_checks w y) (Ok p.channel) ≡ Ok p.channel) (sym passed_asks)
        (all_passed Err (early_checks w q) (Ok p.channel) holds);
    number = rw (← is);
    hops_are = rw (← is);
  }
