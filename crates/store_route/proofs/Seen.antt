-- A loop that marks the links it has seen: a link is marked exactly if it stands at a place passed.
use Rattle.std.proofs.Common.{◌≡◌, ◌<◌, ◌+◌, ℕ, Bool, true, false, not, ◌&&◌, refl, sym, arith}
use Rattle.std.proofs.Common.{List, length, get_or, set, replicate, length-set}
use mathlib.Core.Path.{ap, ◌∙◌}
use native.Mathlib.Decide.{ℕ_discrete}
use lib.Dec.{eqb}
use native.Mathlib.Numerals.{add-one}
use Rattle.std.proofs.lemmas.List.{get_or-replicate}
use lib.Seq.{get_or-set_same, get_or-set_other}
use borrow.Author.Tests.{eq-eqb, ne_eqb}
use Rattle.kinds.specs.Ranges.{most_links}
use Rattle.folds.specs.Folds.{every}
use Rattle.store.specs.Route.{is_new}
use Rattle.folds.proofs.Folds.{every_none, every_false}

-- at place i stands another link than l
abbrev pub other : (route : ℕ → ℕ) → (l i : ℕ) → Bool
other route l i = not (eqb (route i) l)

-- the marks after j places
pub record Marks (route : ℕ → ℕ) (seen : List Bool) (j : ℕ) : Type 0 where
  pub size : length seen ≡ most_links
  pub marked : (l : ℕ) → l < most_links → get_or seen l false ≡ not (every (other route l) j)

-- a place where f holds changes nothing
kept : (f : ℕ → Bool) (j : ℕ) → f j ≡ true → every f (j + 1) ≡ every f j
unfolding every
kept f j e = rw (add-one j, every, e) (go (every f j))
  where
    go : (a : Bool) → (a && true) ≡ a
    go true = refl
    go false = refl

pub marks_none : (route : ℕ → ℕ) → Marks route (replicate most_links false) 0
marks_none route = record {
  size = refl;
  marked = λ l h. get_or-replicate most_links l false false h ∙ sym (ap not (every_none (other route l)));
}

module _ {route : ℕ → ℕ} {seen : List Bool} {j : ℕ} (m : Marks route seen j) (few : route j < most_links) where
  pub marks_more : Marks route (set seen (route j) true) (j + 1)
  marks_more = record { size = length-set seen (route j) true ∙ m.size; marked = λ l h. go l h (ℕ_discrete l (route j)) }
    where
      go : (l : ℕ) → l < most_links → Dec (l ≡ route j)
          → get_or (set seen (route j) true) l false ≡ not (every (other route l) (j + 1))
      go l h (yes e) =
          let f = every_false (other route l) (j + 1) j (omega arith) (ap not (eq-eqb (route j) l (sym e))) in
          rw f (rw e (get_or-set_same seen (route j) true false (omega (arith, m.size))))
      go l h (no n) =
          let f : other route l j ≡ true = ap not (ne_eqb (route j) l (λ e. n (sym e))) in
          get_or-set_other seen (route j) l true false n ∙ m.marked l h ∙ ap not (sym (kept (other route l) j f))

  pub again : get_or seen (route j) false ≡ true → is_new route j ≡ false
  again e = go (is_new route j) (m.marked (route j) few)
    where
      go : (t : Bool) → get_or seen (route j) false ≡ not t → t ≡ false
      go true q = sym e ∙ q
      go false q = refl

  pub new : get_or seen (route j) false ≡ false → is_new route j ≡ true
  new e = go (is_new route j) (m.marked (route j) few)
    where
      go : (t : Bool) → get_or seen (route j) false ≡ not t → t ≡ true
      go true q = refl
      go false q = sym e ∙ q
