-- The search on one link: the smallest place from which on a test holds, and a link's first rows.
use Prim.Native.Nat.{ℕ, zero, suc, ◌-◌, ◌≤◌, ◌<◌}
use mathlib.Core.Path.{◌≡◌, refl, sym, ap, ◌∙◌}
use mathlib.Core.Bool.{Bool, true, false}
use mathlib.Core.List.{List, [], ◌∷◌}
use native.Mathlib.Omega.{arith}
use lib.ListN.{length, take, length-append}
use lib.Seq.{take_all, take-append-le}
use Rattle.std.specs.declared.option.Option.{Option}
use Rattle.std.specs.declared.option.Option.TheVariants.{None, Some}
use Rattle.std.specs.Option.{is_some}
use Rattle.response.specs.declared.Row.{Row}
use Rattle.response.specs.declared.Answer.{Answer}
use Rattle.response.specs.Trials.{response}
use Rattle.response.specs.Right.{HasResponse}
use Rattle.response.proofs.Laws.Trials.{found_is}
use Rattle.store.specs.Layout.{Store}
use Rattle.folds.proofs.Folds.{below}
use Rattle.open_rules.specs.Search.{row_at, rows_to, is_found, smallest}

-- q is the smallest number such that f holds of each from q on, below n
pub record Smallest (f : ℕ → Bool) (n q : ℕ) : Type 0 where
  pub most : q ≤ n
  pub holds : (k : ℕ) → q ≤ k → k < n → f k ≡ true
  pub stops : (k : ℕ) → q ≡ suc k → f k ≡ false

module _ (f : ℕ → Bool) where
  pub smallest_none : smallest f 0 ≡ 0
  unfolding smallest
  smallest_none = refl

  smallest_true : (n : ℕ) → f n ≡ true → smallest f (suc n) ≡ smallest f n
  unfolding smallest
  smallest_true n e = rw (e, smallest)

  pub smallest_false : (n : ℕ) → f n ≡ false → smallest f (suc n) ≡ suc n
  unfolding smallest
  smallest_false n e = rw (e, smallest)

  -- going down from n: where f holds of each from q on, what is below q decides
  pub smallest_down : (n q : ℕ) → q ≤ n → ((k : ℕ) → q ≤ k → k < n → f k ≡ true) → smallest f n ≡ smallest f q
  smallest_down zero q l h =
      let e : q ≡ 0 = omega arith in
      rw e
  smallest_down (suc n) q l h =
      below q (suc n) (omega arith)
      (λ m. smallest_true n (h n (omega arith) (omega arith)) ∙ smallest_down n q (omega arith) (λ k a b. h k a (omega arith)))
      (λ e. rw e)

  pub smallest_is : (n : ℕ) → Smallest f n (smallest f n)
  unfolding smallest
  smallest_is zero = record { most = omega arith; holds = λ k a b. absurd (omega arith); stops = λ k e. absurd (omega arith) }
  smallest_is (suc n) = go (f n) refl (smallest_is n)
    where
      go : (t : Bool) → f n ≡ t → Smallest f n (smallest f n) → Smallest f (suc n) (smallest f (suc n))
      go true e s =
          rw (smallest_true n e)
          (record {
            most = omega (arith, s.most);
            holds = λ k a b. below k n b (s.holds k a) (λ i. rw i e);
            stops = s.stops;
          })
      go false e s =
          rw (smallest_false n e)
          (record {
            most = omega arith;
            holds = λ k a b. absurd (omega arith);
            stops = λ k i. let j : k ≡ n = omega arith in rw j e;
          })

-- A loop that goes down from n: f holds of each number passed.
pub record Falling (f : ℕ → Bool) (n q : ℕ) : Type 0 where
  pub place : q ≤ n
  pub all : (k : ℕ) → q ≤ k → k < n → f k ≡ true

module _ (f : ℕ → Bool) (n : ℕ) where
  pub falling_none : (q : ℕ) → q ≡ n → Falling f n q
  falling_none q e = record { place = omega arith; all = λ k a b. absurd (omega arith) }

  pub falling_stop : (q : ℕ) → Falling f n q → 0 < q → f (q - 1) ≡ false → q ≡ smallest f n
  falling_stop q g h e =
      let i : q ≡ suc (q - 1) = omega arith in
      i ∙ sym (smallest_down f n q g.place g.all ∙ ap (smallest f) i ∙ smallest_false f (q - 1) e)

  pub falling_end : (q : ℕ) → Falling f n q → q ≤ 0 → q ≡ smallest f n
  falling_end q g h =
      let i : q ≡ 0 = omega arith in
      i ∙ sym (smallest_down f n q g.place g.all ∙ ap (smallest f) i ∙ smallest_none f)

module _ (w : Store) (l : ℕ) where
  pub rows_length : (n : ℕ) → length (rows_to w l n) ≡ n
  unfolding rows_to
  rows_length zero = refl
  rows_length (suc n) = rw (length-append (rows_to w l n) (row_at w l n ∷ [])) (omega (arith, rows_length n))

  pub rows_take : (m n : ℕ) → n ≤ m → take n (rows_to w l m) ≡ rows_to w l n
  unfolding rows_to
  rows_take zero n h =
      let e : n ≡ 0 = omega arith in
      rw e
  rows_take (suc m) n h =
      below n (suc m) (omega arith)
      (λ b.
      take-append-le n (rows_to w l m) (row_at w l m ∷ []) (omega (arith, rows_length m)) ∙ rows_take m n (omega arith))
      (λ e. rw e (take_all (suc m) (rows_to w l (suc m)) (omega (arith, rows_length (suc m)))))

-- a response that is found, as a test and as a fact
pub found_response : (own limit : ℕ) (above : List Row) → is_found (response own above limit) ≡ true → HasResponse own above limit
found_response own limit above e = go a.response refl e
  where
    a : Answer
    a = response own above limit

    go : (o : Option ℕ) → a.response ≡ o → is_some o ≡ true → HasResponse own above limit
    go (Some r) h f = record { length = r; trials = a.trials; found = found_is a r h }
    go None h f = absurd (let z : ◌≡◌ {A = ℕ} 0 1 = cc f in omega arith)

pub response_found : (own limit : ℕ) (above : List Row) → HasResponse own above limit → is_found (response own above limit) ≡ true
response_found own limit above h = rw h.found
