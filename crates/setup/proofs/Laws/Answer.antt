-- The answer of set-up as facts about the list and the store, and the store after it.
use Prim.Native.Nat.{ℕ, ◌≤◌, ◌<◌}
use mathlib.Core.Path.{◌≡◌, refl, sym, ◌∙◌}
use mathlib.Core.Bool.{Bool, true, false}
use mathlib.Core.List.{List}
use native.Mathlib.Omega.{arith}
use lib.ListN.{length}
use borrow.Author.Tests.{le-leb, lt-leb, leb-true, leb-false}
use Rattle.kinds.specs.Ranges.{in_range_links, most_links}
use Rattle.kinds.specs.Checks.{link_passes}
use Rattle.kinds.proofs.Laws.{within_true}
use Rattle.folds.specs.Folds.{first_not}
use Rattle.store.specs.Layout.{Store, Long, store_length, from_of, to_of, horizon_of, buffer_of}
use Rattle.store.specs.Sound.{long_enough}
use Rattle.folds.proofs.Folds.{every_at}
use Rattle.kinds.specs.declared.Refusal.{Refusal}
use Rattle.kinds.specs.declared.Refusal.TheVariants.{BadLinks, NotSound}
use Rattle.std.specs.declared.result.Result.TheVariants.{Ok, Err}
use Rattle.folds.proofs.Chains.{failing_some, failing_none}
use Rattle.setup_list.proofs.Laws.Links.{passes_at, pass_whole}
use Rattle.setup_fresh.proofs.Laws.Fresh.{fresh_from, fresh_to, fresh_horizon, fresh_buffer}
use Rattle.setup_list.specs.List.{links_in, from_in, to_in, horizon_in, buffer_in, link_passes_at, links_pass}
use Rattle.setup_fresh.specs.Fresh.{fresh_store}
use Rattle.setup.specs.SetUp.{set_up_answer, set_up_store}

-- for the proof of the call: what it learns of the links
pub ruleset links_looked_at = (failing_some, failing_none, pass_whole)

-- what set-up accepts: "links 1 to 16", each of which passes, and a store that is long enough
pub record Accepted (w : Store) (numbers : List ℕ) : Type 0 where
  pub count : in_range_links (links_in numbers) ≡ true
  pub pass : links_pass numbers ≡ true
  pub long : Long w

module _ (w : Store) (numbers : List ℕ) where
  -- the answer, case by case
  pub refused_count : in_range_links (links_in numbers) ≡ false → set_up_answer w numbers ≡ Err (BadLinks 0)
  unfolding set_up_answer
  refused_count c = rw (c, set_up_answer)

  pub refused_link : in_range_links (links_in numbers) ≡ true → links_pass numbers ≡ false
      → set_up_answer w numbers ≡ Err (BadLinks (first_not (link_passes_at numbers) (links_in numbers)))
  unfolding set_up_answer
  refused_link c p = rw (c, p, set_up_answer)

  pub refused_short : in_range_links (links_in numbers) ≡ true → links_pass numbers ≡ true → length w < store_length
      → set_up_answer w numbers ≡ Err NotSound
  unfolding set_up_answer
  refused_short c p s = rw (c, p, lt-leb _ _ s, set_up_answer)

  pub accepted_ready : Accepted w numbers → set_up_answer w numbers ≡ Ok tt
  unfolding set_up_answer
  accepted_ready a = rw (a.count, a.pass, le-leb _ _ a.long, set_up_answer)

  -- there is no other case
  pub cases : {P : Type 0} → (in_range_links (links_in numbers) ≡ false → P)
      → (in_range_links (links_in numbers) ≡ true → links_pass numbers ≡ false → P)
      → (in_range_links (links_in numbers) ≡ true → links_pass numbers ≡ true → length w < store_length → P)
      → (Accepted w numbers → P) → P
  cases {P} count link short ready = counted (in_range_links (links_in numbers)) refl
    where
      stored : (b : Bool) → long_enough w ≡ b → in_range_links (links_in numbers) ≡ true → links_pass numbers ≡ true → P
      stored true l c p = ready (record { count = c; pass = p; long = leb-true _ _ l })
      stored false l c p = short c p (leb-false _ _ l)

      passed : (b : Bool) → links_pass numbers ≡ b → in_range_links (links_in numbers) ≡ true → P
      passed true p c = stored (long_enough w) refl c p
      passed false p c = link c p

      counted : (b : Bool) → in_range_links (links_in numbers) ≡ b → P
      counted true c = passed (links_pass numbers) refl c
      counted false c = count c

  pub ready_accepted : set_up_answer w numbers ≡ Ok tt → Accepted w numbers
  ready_accepted e =
      cases
      (λ c. no _ (refused_count c))
      (λ c p. no _ (refused_link c p))
      (λ c p h. no _ (refused_short c p h))
      (λ a. a)
    where
      no : (refusal : Refusal) → set_up_answer w numbers ≡ Err refusal → Accepted w numbers
      no refusal r = absurd (let z : ◌≡◌ {A = ℕ} 0 1 = cc in omega arith)

  -- the store after it
  pub ready_store : set_up_answer w numbers ≡ Ok tt → set_up_store w numbers ≡ fresh_store w numbers
  unfolding set_up_store
  ready_store e = rw e

  pub refused_store : (refusal : Refusal) → set_up_answer w numbers ≡ Err refusal → set_up_store w numbers ≡ w
  unfolding set_up_store
  refused_store refusal e = rw e

-- what is accepted: the count as bounds, each link in range
module _ (w : Store) (numbers : List ℕ) (a : Accepted w numbers) where
  pub accepted_some : 1 ≤ links_in numbers
  accepted_some = (within_true 1 most_links (links_in numbers) a.count).0

  pub accepted_few : links_in numbers ≤ most_links
  accepted_few = (within_true 1 most_links (links_in numbers) a.count).1

  pub accepted_link : (l : ℕ) → l < links_in numbers
      → link_passes (from_in numbers l) (to_in numbers l) (horizon_in numbers l) (buffer_in numbers l) ≡ true
  accepted_link l h = passes_at numbers l (every_at (link_passes_at numbers) (links_in numbers) a.pass l h)

  -- and in the store
  pub stored_link : (l : ℕ) → l < links_in numbers
      → let s = fresh_store w numbers in link_passes (from_of s l) (to_of s l) (horizon_of s l) (buffer_of s l) ≡ true
  stored_link l h =
      let from = fresh_from w numbers a.long accepted_few l h in
      let to = fresh_to w numbers a.long accepted_few l h in
      let horizon = fresh_horizon w numbers a.long accepted_few l h in
      let buffer = fresh_buffer w numbers a.long accepted_few l h in
      rw (from, to, horizon, buffer) (accepted_link l h)

-- the answer looks at the store's length alone
pub answer_forgets : (w v : Store) (numbers : List ℕ) → length w ≡ length v → set_up_answer w numbers ≡ set_up_answer v numbers
answer_forgets w v numbers e =
    cases
    w
    numbers
    (λ c. refused_count w numbers c ∙ sym (refused_count v numbers c))
    (λ c p. refused_link w numbers c p ∙ sym (refused_link v numbers c p))
    (λ c p h. refused_short w numbers c p h ∙ sym (refused_short v numbers c p (omega arith)))
    (λ a. accepted_ready w numbers a
    ∙ sym (accepted_ready v numbers (record { count = a.count; pass = a.pass; long = rw e at a.long })))
