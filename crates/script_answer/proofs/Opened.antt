-- An accepted open has a route of at most eight links.
use Prim.Native.Nat.{ℕ, ◌+◌, ◌≤◌}
use Rattle.std.specs.Prelude.{Ok}
use mathlib.Core.Path.{◌≡◌, sym, ap, ◌∙◌}
use mathlib.Core.List.{List}
use native.Mathlib.Omega.{arith}
use lib.ListN.{length, drop, length-drop}
use lib.Seq.{length-take-le}
use Rattle.store.specs.Layout.{Store}
use Rattle.open_rules.specs.declared.Opening.{Opening}
use Rattle.open_rules.specs.Open.{open_answer}
use Rattle.open.proofs.Outcome.{outcome_is}
use Rattle.open.proofs.Laws.{accepted_early}
use Rattle.script_answer.specs.Answer.{request_in}

pub opened_few : (w : Store) (ns : List ℕ) (n x : ℕ) → 4 + n ≤ length ns
    → {r : Opening} → r ≡ open_answer w (request_in ns n) → r.outcome ≡ Ok x → n ≤ 8
opened_few w ns n x h e a =
    let a = sym (outcome_is w (request_in ns n)) ∙ (ap (λ (o : Opening). o.outcome) (sym e) ∙ a) in
    let few = (accepted_early w (request_in ns n) x a).hops_most in
    rw (length-take-le n (drop 4 ns) (simp length-drop (omega arith))) at few
