-- The folds, for loops that go up from 0 and for what holds at each number.
use Prim.Native.Nat.{ℕ, zero, suc, ◌+◌, ◌*◌, ◌≤◌, ◌<◌}
use mathlib.Core.Path.{◌≡◌, refl, sym}
use mathlib.Core.Bool.{Bool, true, false, ◌&&◌, ◌||◌, and-eq-true_iff}
use native.Mathlib.Numerals.{add-one}
use native.Mathlib.Omega.{arith}
use Rattle.folds.specs.Folds.{every, some, first_not, sum_to}

-- a number below suc n is below n, or it is n
pub below : {P : Type 0} (i n : ℕ) → i < suc n → (i < n → P) → (i ≡ n → P) → P
below zero zero h l s = s refl
below zero (suc n) h l s = l (omega arith)
below (suc i) zero h l s = absurd (omega arith)
below (suc i) (suc n) h l s = below i n (omega arith) (λ k. l (omega arith)) (λ e. s (rw e))

pub and-false : (a b : Bool) → b ≡ false → (a && b) ≡ false
and-false true b e = e
and-false false b e = refl

pub or_true : (a b : Bool) → b ≡ true → (a || b) ≡ true
or_true true b e = refl
or_true false b e = e

or-false : (a b : Bool) → b ≡ false → (a || b) ≡ true → a ≡ true
or-false true b e h = refl
or-false false b e h = cc

-- two tests that follow from each other
pub one_test : (a b : Bool) → (a ≡ true → b ≡ true) → (b ≡ true → a ≡ true) → a ≡ b
one_test true b f g = sym (f refl)
one_test false true f g = g refl
one_test false false f g = refl

-- i is the first below n of which f does not hold, or it is n
pub record First (f : ℕ → Bool) (n i : ℕ) : Type 0 where
  pub before : every f i ≡ true
  pub fails : i < n → f i ≡ false

module _ (f : ℕ → Bool) where
  pub every_none : every f 0 ≡ true
  unfolding every
  every_none = refl

  pub every_more : (i : ℕ) → every f i ≡ true → f i ≡ true → every f (i + 1) ≡ true
  unfolding every
  every_more i e h = rw (add-one i, every, e, h)

  pub every_false : (n i : ℕ) → i < n → f i ≡ false → every f n ≡ false
  unfolding every
  every_false zero i h e = absurd (omega arith)
  every_false (suc n) i h e =
      below i n h (λ l. rw (every_false n i l e)) (λ s. and-false (every f n) (f n) (rw s at e))

  pub every_at : (n : ℕ) → every f n ≡ true → (i : ℕ) → i < n → f i ≡ true
  unfolding every
  every_at zero e i h = absurd (omega arith)
  every_at (suc n) e i h =
      let b = (and-eq-true_iff (every f n) (f n)).0 e in
      below i n h (λ l. every_at n b.0 i l) (λ s. rw s b.1)

  pub every_true : (n : ℕ) → ((i : ℕ) → i < n → f i ≡ true) → every f n ≡ true
  unfolding every
  every_true zero h = refl
  every_true (suc n) h = rw (every_true n (λ i l. h i (omega arith)), h n (omega arith))

  pub every_front : (n : ℕ) → every f n ≡ true → (i : ℕ) → i ≤ n → every f i ≡ true
  every_front n e i h = every_true i (λ k l. every_at n e k (omega arith))

  -- the first failure: where all before hold and this one does not
  pub first_at : (n i : ℕ) → every f i ≡ true → f i ≡ false → i < n → first_not f n ≡ i
  unfolding first_not
  first_at zero i e h l = absurd (omega arith)
  first_at (suc n) i e h l =
      below i n l (λ k. rw (every_false n i k h, first_not) (first_at n i e h k))
      (λ s. rw (rw s at e, rw s at h, first_not) (sym s))

  pub first_end : (n : ℕ) → every f n ≡ true → first_not f n ≡ n
  unfolding every first_not
  first_end zero e = refl
  first_end (suc n) e =
      let b = (and-eq-true_iff (every f n) (f n)).0 e in
      rw (b.0, b.1, first_not)

  -- and back: it is below n only where one fails
  pub first_below : (n : ℕ) → every f n ≡ false → first_not f n < n
  unfolding every first_not
  first_below zero e = absurd (let z : ◌≡◌ {A = ℕ} 0 1 = cc in omega arith)
  first_below (suc n) e = go (every f n) (f n) refl refl (λ a. first_below n a)
    where
      go : (a b : Bool) → every f n ≡ a → f n ≡ b → (every f n ≡ false → first_not f n < n) → first_not f (suc n) < suc n
      go true true a b r = absurd (let z : true ≡ false = rw (a, b) at e in let y : ◌≡◌ {A = ℕ} 0 1 = cc in omega arith)
      go true false a b r = rw (a, b, first_not) (omega arith)
      go false b a h r = rw (a, first_not) (omega (arith, r a))

  pub first_most : (n : ℕ) → first_not f n ≤ n
  first_most n = go (every f n) refl
    where
      go : (t : Bool) → every f n ≡ t → first_not f n ≤ n
      go true a = omega (arith, first_end n a)
      go false a = omega (arith, first_below n a)

  pub first_is : (n : ℕ) → First f n (first_not f n)
  unfolding every first_not
  first_is zero = record { before = refl; fails = λ h. absurd (omega arith) }
  first_is (suc n) = go (every f n) (f n) refl refl (first_is n)
    where
      go : (a b : Bool) → every f n ≡ a → f n ≡ b → First f n (first_not f n) → First f (suc n) (first_not f (suc n))
      go true true a b r = rw (a, b, first_not) (record { before = rw (a, b); fails = λ h. absurd (omega arith) })
      go true false a b r = rw (a, b, first_not) (record { before = a; fails = λ h. b })
      go false b a h r = rw (a, first_not) (record { before = r.before; fails = λ l. r.fails (first_below n a) })

  pub some_true : (n i : ℕ) → i < n → f i ≡ true → some f n ≡ true
  unfolding some
  some_true zero i h e = absurd (omega arith)
  some_true (suc n) i h e =
      below i n h (λ l. rw (some_true n i l e)) (λ s. or_true (some f n) (f n) (rw s at e))

  pub some_false : (n : ℕ) → ((i : ℕ) → i < n → f i ≡ false) → some f n ≡ false
  unfolding some
  some_false zero h = refl
  some_false (suc n) h = rw (some_false n (λ i l. h i (omega arith)), h n (omega arith))

-- where it holds
pub record Holding (f : ℕ → Bool) (n : ℕ) : Type 0 where
  pub at : ℕ
  pub inside : at < n
  pub holds : f at ≡ true

pub some_at : (f : ℕ → Bool) (n : ℕ) → some f n ≡ true → Holding f n
unfolding some
some_at f zero e = absurd (let z : ◌≡◌ {A = ℕ} 0 1 = cc in omega arith)
some_at f (suc n) e = go (f n) refl (λ h. some_at f n h)
  where
    go : (t : Bool) → f n ≡ t → (some f n ≡ true → Holding f n) → Holding f (suc n)
    go true h r = record { at = n; inside = omega arith; holds = h }
    go false h r =
        let k = r (or-false (some f n) (f n) h e) in
        record { at = k.at; inside = omega (arith, k.inside); holds = k.holds }

-- two tests that agree below n
pub every_same : (f g : ℕ → Bool) (n : ℕ) → ((i : ℕ) → i < n → f i ≡ g i) → every f n ≡ every g n
unfolding every
every_same f g zero h = refl
every_same f g (suc n) h = rw (every_same f g n (λ i l. h i (omega arith)), h n (omega arith))

pub first_same : (f g : ℕ → Bool) (n : ℕ) → ((i : ℕ) → i < n → f i ≡ g i) → first_not f n ≡ first_not g n
unfolding first_not
first_same f g zero h = refl
first_same f g (suc n) h =
    go (every g n) (g n) (every_same f g n (λ i l. h i (omega arith))) refl (h n (omega arith)) refl
    (first_same f g n (λ i l. h i (omega arith)))
  where
    go : (a b : Bool) → every f n ≡ a → every g n ≡ a → f n ≡ b → g n ≡ b → first_not f n ≡ first_not g n
        → first_not f (suc n) ≡ first_not g (suc n)
    go true true a a' b b' r = rw (a, a', b, b', first_not)
    go true false a a' b b' r = rw (a, a', b, b', first_not)
    go false t a a' b b' r = rw (a, a', first_not) r

module _ (f : ℕ → ℕ) where
  pub sum_none : sum_to f 0 ≡ 0
  unfolding sum_to
  sum_none = refl

  pub sum_more : (i : ℕ) → sum_to f (i + 1) ≡ sum_to f i + f i
  unfolding sum_to
  sum_more i = rw (add-one i, sum_to)

  pub sum_most : (most n : ℕ) → ((i : ℕ) → i < n → f i ≤ most) → sum_to f n ≤ most * n
  unfolding sum_to
  sum_most most zero h = omega arith
  sum_most most (suc n) h = omega (arith, sum_most most n (λ i l. h i (omega arith)), h n (omega arith))

  -- a part is at most the whole
  pub sum_part : (n i : ℕ) → i < n → f i ≤ sum_to f n
  unfolding sum_to
  sum_part zero i h = absurd (omega arith)
  sum_part (suc n) i h = below i n h (λ l. omega (arith, sum_part n i l)) (λ s. rw s (omega arith))

pub sum_mono : (f g : ℕ → ℕ) (n : ℕ) → ((i : ℕ) → i < n → f i ≤ g i) → sum_to f n ≤ sum_to g n
unfolding sum_to
sum_mono f g zero h = omega arith
sum_mono f g (suc n) h = omega (arith, sum_mono f g n (λ i l. h i (omega arith)), h n (omega arith))

pub sum_same : (f g : ℕ → ℕ) (n : ℕ) → ((i : ℕ) → i < n → f i ≡ g i) → sum_to f n ≡ sum_to g n
unfolding sum_to
sum_same f g zero h = refl
sum_same f g (suc n) h = rw (sum_same f g n (λ i l. h i (omega arith)), h n (omega arith))

-- A loop that looks at each number below n, from 0 up: all below i have passed.
pub record Passing (f : ℕ → Bool) (n i : ℕ) : Type 0 where
  pub place : i ≤ n
  pub all : every f i ≡ true

module _ (f : ℕ → Bool) (n : ℕ) where
  pub passing_none : Passing f n 0
  passing_none = record { place = omega arith; all = every_none f }

  pub passing_more : (i : ℕ) → Passing f n i → i < n → f i ≡ true → Passing f n (i + 1)
  passing_more i p h e = record { place = omega arith; all = every_more f i p.all e }

  pub passing_done : (i : ℕ) → Passing f n i → n ≤ i → every f n ≡ true
  passing_done i p h =
      let e : i ≡ n = omega (arith, p.place) in
      rw e at p.all

  pub passing_first : (i : ℕ) → Passing f n i → i < n → f i ≡ false → i ≡ first_not f n
  passing_first i p h e = sym (first_at f n i p.all e h)

  pub passing_end : (i : ℕ) → Passing f n i → n ≤ i → n ≡ first_not f n
  passing_end i p h = sym (first_end f n (passing_done i p h))
