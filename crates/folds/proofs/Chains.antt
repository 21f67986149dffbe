-- What a chain of iterators over the numbers below n gives, as a fold; and what a caller learns from `failing`.
use Rattle.std.proofs.Common.{◌≡◌, ◌≤◌, ◌<◌, ℕ, Bool, true, false, not, length, List, get_or, refl, sym}
use native.Mathlib.Omega.{arith}
use denote.Param.Members.{Mut}
use denote.Ref.{Bor}
use Rattle.std.specs.declared.option.Option.{Option}
use Rattle.std.specs.declared.option.Option.TheVariants.{None, Some}
use Rattle.std.specs.declared.ops.Range.{Range}
use Rattle.std.specs.Iterator.{YieldsThen}
use Rattle.std.specs.Fn.{Called, CalledAt}
use Rattle.std.specs.List.{range_with_len, FoldsTo, AllWithin, HoldsAt}
use Rattle.std.specs.Option.{MatchOption}
use Rattle.std.specs.Bool.{MatchBool, ⊤}
use Rattle.std.proofs.lemmas.Iterator.{YieldsList-from_range, YieldsList-from_slice, cases_from_all, first_from_Range, IsFirst-from_position}
use Rattle.std.proofs.lemmas.List.FromFn.{length-range_with_len, get_or-range_with_len}
use Rattle.std.proofs.iter.Yields.{nat_range_steps, fronts}
use Rattle.std.specs.Slice.Iter.{iter_rest}
use Rattle.std.specs.declared.slice.Iter.{Iter}
use mathlib.Core.Path.{◌∙◌}
use Rattle.folds.specs.Folds.{every, first_not, failing}
use Rattle.folds.proofs.Folds.{every_true, every_false, first_at}

module _ {F : Type 0} (f : ℕ → Bool) (n : ℕ) where
  -- `(0..n).all(..)`, where the closure works out f
  pub every_from_all : {g : Mut F (ℕ × Unit {0}) Bool} {s : Range ℕ} (u : Range ℕ) (h : F) (r : Bool)
      → (xs : List ℕ) × (o : Option ℕ) × (j : F) × YieldsThen nat_range_steps s xs o u × FoldsTo (λ p x q. Called g p (x, tt) true q) h xs j
      × MatchOption o (r ≡ true) (λ x. (r ≡ false) × ((e : F) × Called g j (x, tt) false e))
      → s ≡ record { start = 0; end = n }
      → ((x : ℕ) (b : Bool) (q : F) → Called g h (x, tt) b q → (q ≡ h) × (b ≡ f x))
      → r ≡ every f n
  every_from_all u h r ran e called =
      go r (cases_from_all u h r (λ x. f x ≡ true) (λ x. f x ≡ false) ran (YieldsList-from_range 0 n n e (omega arith))
      (λ x q k. ((called x true q k).0, sym (called x true q k).1)) (λ x q k. sym (called x false q k).1))
    where
      go : (r : Bool) → MatchBool r (AllWithin (λ x. f x ≡ true) (range_with_len 0 n) 0 (length (range_with_len 0 n)))
          ((k : ℕ) × (k < length (range_with_len 0 n)) × HoldsAt (λ x. f x ≡ false) (range_with_len 0 n) k)
          → r ≡ every f n
      go true m = sym (every_true f n (λ i l.
          let e : get_or (range_with_len 0 n) i 0 ≡ i = omega (arith, get_or-range_with_len 0 n i 0 l) in
          rw e at (m i 0 (omega arith) (rw (length-range_with_len 0 n) l))))
      go false m =
          let l : m.0 < n = rw (length-range_with_len 0 n) at m.1 in
          let e : get_or (range_with_len 0 n) m.0 0 ≡ m.0 = omega (arith, get_or-range_with_len 0 n m.0 0 l) in
          sym (every_false f n m.0 l (rw e at (m.2 0)))

  -- `(0..n).find(..)`, where the closure works out that f does not hold
  pub failing_from_find : {g : Mut F (Bor ℕ × Unit {0}) Bool} {s : Range ℕ} (u : Range ℕ) (h : F) (r : Option ℕ)
      → (xs : List ℕ) × (j : F) × YieldsThen nat_range_steps s xs r u × FoldsTo (λ p x q. CalledAt g p x false q) h xs j
      × MatchOption r ⊤ (λ x. (e : F) × CalledAt g j x true e)
      → s ≡ record { start = 0; end = n }
      → ((x : ℕ) (b : Bool) (q : F) → CalledAt g h x b q → (q ≡ h) × (f x ≡ not b))
      → r ≡ failing f n
  unfolding failing
  failing_from_find {s = s} u h r ran e called =
      go r (first_from_Range s u h r (λ x. f x ≡ false) (λ x. f x ≡ true) ran (λ x q k. (called x true q k).1)
      (λ x q k. ((called x false q k).0, (called x false q k).1)))
    where
      a : s.start ≡ 0
      a = rw e

      z : s.end ≡ n
      z = rw e

      go : (r : Option ℕ) → MatchOption r ((k : ℕ) → s.start ≤ k → k < s.end → f k ≡ true)
          (λ i. (s.start ≤ i) × (i < s.end) × (f i ≡ false) × ((k : ℕ) → s.start ≤ k → k < i → f k ≡ true))
          → r ≡ failing f n
      go None m =
          let t : every f n ≡ true = every_true f n (λ k l. m k (omega (arith, a)) (omega (arith, z, l))) in
          rw (t, failing)
      go (Some i) m =
          let l : i < n = omega (arith, z, m.1) in
          let b : every f i ≡ true = every_true f i (λ k l. m.3 k (omega (arith, a)) l) in
          let w : every f n ≡ false = every_false f n i l m.2 in
          rw (w, first_at f n i b m.2 l, failing)

-- `numbers.iter().position(..)`, where the closure works out that the test t does not hold of a number
pub failing_from_position : {F : Type 0} (f t : ℕ → Bool) (numbers : List ℕ) {g : Mut F (Bor ℕ × Unit {0}) Bool} {s : Iter ℕ}
    (u : Iter ℕ) (h : F) (r : Option ℕ)
    → (xs : List (Bor ℕ)) × (o : Option (Bor ℕ)) × (j : F) × YieldsThen fronts s xs o u
    × FoldsTo (λ p x q. Called g p (x, tt) false q) h xs j
    × MatchOption o (r ≡ None) (λ x. (r ≡ Some (length xs)) × ((e : F) × Called g j (x, tt) true e))
    → iter_rest s ≡ numbers
    → ((x : Bor ℕ) (b : Bool) (q : F) → Called g h (x, tt) b q → (q ≡ h) × (t x.now ≡ not b))
    → ((j : ℕ) → j < length numbers → f j ≡ t (get_or numbers j 0))
    → r ≡ failing f (length numbers)
unfolding failing
failing_from_position f t numbers u h r ran e called tests =
    go r (IsFirst-from_position u h r (λ x. t x ≡ false) (λ x. t x ≡ true) ran (YieldsList-from_slice numbers e)
    (λ x q k. (called x true q k).1) (λ x q k. called x false q k))
  where
    go : (r : Option ℕ)
        → MatchOption r (AllWithin (λ x. t x ≡ true) numbers 0 (length numbers))
        (λ i. (i < length numbers) × HoldsAt (λ x. t x ≡ false) numbers i × AllWithin (λ x. t x ≡ true) numbers 0 i)
        → r ≡ failing f (length numbers)
    go None m =
        let a : every f (length numbers) ≡ true =
        every_true f (length numbers) (λ k l. tests k l ∙ m k 0 (omega arith) l) in
        rw (a, failing)
    go (Some i) m =
        let b : every f i ≡ true = every_true f i (λ k l. tests k (omega (arith, l, m.0)) ∙ m.2 k 0 (omega arith) l) in
        let n : f i ≡ false = tests i m.0 ∙ m.1 0 in
        let w : every f (length numbers) ≡ false = every_false f (length numbers) i m.0 n in
        rw (w, first_at f (length numbers) i b n m.0, failing)

-- what a caller learns: all hold, or the first that does not
module _ (f : ℕ → Bool) (n : ℕ) where
  pub failing_none : failing f n ≡ None → every f n ≡ true
  unfolding failing
  failing_none e = go (every f n) refl
    where
      go : (t : Bool) → every f n ≡ t → every f n ≡ true
      go true a = a
      go false a = let z : Some (first_not f n) ≡ None = (rw (a, failing) at e) in cc

  pub failing_some : {i : ℕ} → failing f n ≡ Some i → (every f n ≡ false) × (i ≡ first_not f n)
  unfolding failing
  failing_some {i = i} e = go (every f n) refl
    where
      go : (t : Bool) → every f n ≡ t → (every f n ≡ false) × (i ≡ first_not f n)
      go true a = absurd (let z : None ≡ Some i = (rw (a, failing) at e) in cc)
      go false a = (a, let z : Some (first_not f n) ≡ Some i = (rw (a, failing) at e) in cc)
