-- Counting: sums that are zero but at one number, sums over two numbers in either order, and a sum that is as large as it can
-- be exactly if each of its parts is.
use Prim.Native.Nat.{ℕ, zero, suc, ◌+◌, ◌≤◌, ◌<◌}
use mathlib.Core.Path.{◌≡◌, refl, sym, ap, ◌∙◌}
use mathlib.Core.Bool.{Bool, true, false, true≢false, or-false}
use native.Mathlib.Omega.{arith}
use lib.Dec.{eqb}
use borrow.Author.Tests.{eq-eqb, ne_eqb}
use Rattle.kinds.proofs.Laws.{never}
use Rattle.folds.specs.Folds.{every, some, sum_to}
use Rattle.folds.proofs.Folds.{below, every_at, some_false, sum_same}

-- 1 for each number of which f holds
abbrev pub unit : Bool → ℕ
unit b = elim b [ true ↦ 1 | false ↦ 0 ]

abbrev pub count : (ℕ → Bool) → ℕ → ℕ
count f i = unit (f i)

abbrev pub one : ℕ → ℕ
one i = 1

pub sum_ones : (n : ℕ) → sum_to one n ≡ n
unfolding sum_to
sum_ones zero = refl
sum_ones (suc n) = omega (arith, sum_ones n)

module _ (f : ℕ → ℕ) where
  pub sum_zero : (n : ℕ) → ((i : ℕ) → i < n → f i ≡ 0) → sum_to f n ≡ 0
  unfolding sum_to
  sum_zero zero h = refl
  sum_zero (suc n) h = omega (arith, sum_zero n (λ i l. h i (omega arith)), h n (omega arith))

  -- zero at all numbers but one
  pub sum_only : (n i : ℕ) → i < n → ((k : ℕ) → k < n → (k ≡ i → ⊥) → f k ≡ 0) → sum_to f n ≡ f i
  unfolding sum_to
  sum_only zero i h z = absurd (omega arith)
  sum_only (suc n) i h z =
      below i n h
      (λ l. omega (arith, sum_only n i l (λ k b. z k (omega arith)), z n (omega arith) (λ e. omega arith)))
      (λ e. rw e (omega (arith, sum_zero n (λ k b. z k (omega arith) (λ s. omega arith)))))

  pub sum_both : (g : ℕ → ℕ) (n : ℕ) → sum_to f n + sum_to g n ≡ sum_to (λ i. f i + g i) n
  unfolding sum_to
  sum_both g zero = refl
  sum_both g (suc n) = omega (arith, sum_both g n)

-- in either order
pub sum_swap : (f : ℕ → ℕ → ℕ) (m n : ℕ) → sum_to (λ i. sum_to (f i) m) n ≡ sum_to (λ j. sum_to (λ i. f i j) n) m
unfolding sum_to
sum_swap f m zero = sym (sum_zero (λ j. 0) m (λ i h. refl))
sum_swap f m (suc n) = ap (λ s. s + sum_to (f n) m) (sum_swap f m n) ∙ sum_both (λ j. sum_to (λ i. f i j) n) (f n) m

-- where f holds at most once, it is counted once if at all
pub count_some : (f : ℕ → Bool) (n : ℕ) → ((i k : ℕ) → i < k → k < n → f i ≡ true → f k ≡ true → ⊥)
    → sum_to (count f) n ≡ unit (some f n)
unfolding sum_to some
count_some f zero h = refl
count_some f (suc n) h = go (f n) refl (count_some f n (λ i k l m. h i k l (omega arith)))
  where
    go : (b : Bool) → f n ≡ b → sum_to (count f) n ≡ unit (some f n) → sum_to (count f) (suc n) ≡ unit (some f (suc n))
    go true e r =
        let z : some f n ≡ false = some_false f n (λ i l. never (f i) (λ t. h i n l (omega arith) t e)) in
        rw (z, e) (omega (arith, rw z at r))
    go false e r = rw (e, or-false (some f n)) (omega (arith, r))

-- f is nowhere above g, and equal to it exactly where the test holds: so are their sums, by whether every test holds
module _ (f g : ℕ → ℕ) (t : ℕ → Bool) (n : ℕ) (h : (i : ℕ) → i < n → t i ≡ true → f i ≡ g i)
    (k : (i : ℕ) → i < n → t i ≡ false → f i < g i) where
  pub sum_full : (m : ℕ) → m ≤ n → every t m ≡ true → sum_to f m ≡ sum_to g m
  sum_full m l e = sum_same f g m (λ i b. h i (omega arith) (every_at t m e i b))

  no_more : (i : ℕ) → i < n → (b : Bool) → t i ≡ b → f i ≤ g i
  no_more i l true e = omega (arith, h i l e)
  no_more i l false e = omega (arith, k i l e)

  pub sum_less : (m : ℕ) → m ≤ n → every t m ≡ false → sum_to f m < sum_to g m
  unfolding every sum_to
  sum_less zero l e = absurd (true≢false e)
  sum_less (suc m) l e = go (every t m) refl (sum_less m (omega arith))
    where
      go : (a : Bool) → every t m ≡ a → (every t m ≡ false → sum_to f m < sum_to g m) → sum_to f (suc m) < sum_to g (suc m)
      go true a r = omega (arith, sum_full m (omega arith) a, k m (omega arith) (rw a at e))
      go false a r = omega (arith, r a, no_more m (omega arith) (t m) refl)

  pub sums_equal : eqb (sum_to f n) (sum_to g n) ≡ every t n
  sums_equal = go (every t n) refl
    where
      go : (a : Bool) → every t n ≡ a → eqb (sum_to f n) (sum_to g n) ≡ every t n
      go true a = rw a (eq-eqb (sum_to f n) (sum_to g n) (sum_full n (omega arith) a))
      go false a =
          let l : sum_to f n < sum_to g n = sum_less n (omega arith) a in
          rw a (ne_eqb (sum_to f n) (sum_to g n) (λ e. omega arith))

module _ (f : ℕ → Bool) (n : ℕ) where
  counts : (i : ℕ) → i < n → f i ≡ true → count f i ≡ 1
  counts i l e = ap unit e

  skips : (i : ℕ) → i < n → f i ≡ false → count f i < 1
  skips i l e = rw e (omega arith)

  pub count_full : every f n ≡ true → sum_to (count f) n ≡ n
  count_full e = sum_full (count f) one f n counts skips n (omega arith) e ∙ sum_ones n

  pub count_less : every f n ≡ false → sum_to (count f) n < n
  count_less e = rw (sum_ones n) at (sum_less (count f) one f n counts skips n (omega arith) e)

-- Rows on links against places of channels: H says whether a row is a place. A row is one place, and a place is r rows.
module _ (links channels : ℕ) (rows hops : ℕ → ℕ) (H : (x j l k : ℕ) → ℕ) (r : (x j : ℕ) → ℕ)
    (one_place : (l k : ℕ) → l < links → k < rows l → sum_to (λ x. sum_to (λ j. H x j l k) (hops x)) channels ≡ 1)
    (of_place : (x j : ℕ) → x < channels → j < hops x → sum_to (λ l. sum_to (H x j l) (rows l)) links ≡ r x j) where
  -- the rows of link l that are places of channel x; the rows of link l
  abbrev of_both : (x l : ℕ) → ℕ
  of_both x l = sum_to (λ k. sum_to (λ j. H x j l k) (hops x)) (rows l)

  of_link : (l : ℕ) → l < links → rows l ≡ sum_to (λ x. of_both x l) channels
  of_link l h =
      sym (sum_ones (rows l))
      ∙ sum_same one (λ k. sum_to (λ x. sum_to (λ j. H x j l k) (hops x)) channels) (rows l) (λ k g. sym (one_place l k h g))
      ∙ sum_swap (λ k x. sum_to (λ j. H x j l k) (hops x)) channels (rows l)

  of_channel : (x : ℕ) → x < channels → sum_to (of_both x) links ≡ sum_to (r x) (hops x)
  of_channel x h =
      sum_same (of_both x) (λ l. sum_to (λ j. sum_to (H x j l) (rows l)) (hops x)) links
      (λ l g. sum_swap (λ k j. H x j l k) (hops x) (rows l))
      ∙ sum_swap (λ l j. sum_to (H x j l) (rows l)) (hops x) links
      ∙ sum_same (λ j. sum_to (λ l. sum_to (H x j l) (rows l)) links) (r x) (hops x) (λ j g. of_place x j h g)

  pub all_rows : sum_to rows links ≡ sum_to (λ x. sum_to (r x) (hops x)) channels
  all_rows =
      sum_same rows (λ l. sum_to (λ x. of_both x l) channels) links of_link
      ∙ sum_swap (λ l x. of_both x l) channels links
      ∙ sum_same (λ x. sum_to (of_both x) links) (λ x. sum_to (r x) (hops x)) channels of_channel
