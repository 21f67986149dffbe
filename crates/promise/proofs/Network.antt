-- The network is the one that was set up: set-up writes it, in slot 0, and no call changes it.
use Prim.Native.Nat.{ℕ, ◌≤◌, ◌<◌}
use mathlib.Core.Path.{◌≡◌, ◌∙◌}
use mathlib.Core.List.{List}
use native.Mathlib.Omega.{arith}
use Rattle.std.specs.declared.result.Result.TheVariants.{Ok}
use Rattle.kinds.specs.Ranges.{most_links}
use Rattle.store.specs.Layout.{Store, links_of, clock_of}
use Rattle.store_same.proofs.Same.{SameNetwork}
use Rattle.setup_list.specs.List.{links_in}
use Rattle.setup_fresh.proofs.Laws.Fresh.{fresh_links, fresh_from, fresh_to, fresh_horizon, fresh_buffer}
use Rattle.setup_fresh.proofs.Laws.Fresh.{fresh_clock as clock_zero}
use Rattle.setup.specs.SetUp.{set_up_answer, set_up_store}
use Rattle.setup.proofs.Laws.Answer.{Accepted, ready_accepted, ready_store, accepted_few}
use Rattle.promise.specs.Promise.{AsSetUp}

pub network_made : (w : Store) (links : List ℕ) → set_up_answer w links ≡ Ok tt → AsSetUp links (set_up_store w links)
network_made w links e =
    let a : Accepted w links = ready_accepted w links e in
    let few : links_in links ≤ most_links = accepted_few w links a in
    rw (ready_store w links e) (record {
      links_are = fresh_links w links a.long few;
      from_is = fresh_from w links a.long few;
      to_is = fresh_to w links a.long few;
      horizon_is = fresh_horizon w links a.long few;
      buffer_is = fresh_buffer w links a.long few;
    })

pub fresh_clock : (w : Store) (links : List ℕ) → set_up_answer w links ≡ Ok tt → clock_of (set_up_store w links) ≡ 0
fresh_clock w links e = rw (ready_store w links e) (clock_zero w links)

pub network_kept : {links : List ℕ} {w w' : Store} → links_of w ≤ most_links → SameNetwork w w' → AsSetUp links w → AsSetUp links w'
network_kept {links} {w} few same n = record {
  links_are = same.links ∙ n.links_are;
  from_is = λ l h. same.from l (most l h) ∙ n.from_is l h;
  to_is = λ l h. same.to l (most l h) ∙ n.to_is l h;
  horizon_is = λ l h. same.horizon l (most l h) ∙ n.horizon_is l h;
  buffer_is = λ l h. same.buffer l (most l h) ∙ n.buffer_is l h;
}
  where
    most : (l : ℕ) → l < links_in links → l < most_links
    most l h = omega (arith, n.links_are)
