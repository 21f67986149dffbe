-- A value joins a row of values: those above it stay, those from its place on stand one further down.
use Prim.Native.Nat.{ℕ, zero, suc, ◌+◌, ◌≤◌, ◌<◌}
use mathlib.Core.Path.{◌≡◌, ap, sym, subst, subst₂}
use native.Mathlib.Decide.{dec_lt, ℕ_discrete}
use native.Mathlib.Omega.{arith}
use Rattle.folds.specs.Folds.{sum_to}
use Rattle.folds.proofs.Folds.{sum_same}

-- g is f with v put in at `at`, where f has n values
pub record Inserted {A : Type 0} (f g : ℕ → A) (n at : ℕ) (v : A) : Type 0 where
  pub inside : at ≤ n
  pub higher : (k : ℕ) → k < at → g k ≡ f k
  pub new : g at ≡ v
  pub lower : (k : ℕ) → at ≤ k → k < n → g (suc k) ≡ f k

-- a number stands above `at`, there, or below it
around : (P : ℕ → Type 0) (at : ℕ) → ((k : ℕ) → k < at → P k) → P at → ((k : ℕ) → at ≤ k → P (suc k)) → (k : ℕ) → P k
around P at above there below k = go k (dec_lt k at) (ℕ_discrete at k)
  where
    go : (k : ℕ) → Dec (k < at) → Dec (at ≡ k) → P k
    go k (yes h) e = above k h
    go k (no h) (yes e) = subst P e there
    go zero (no h) (no e) = absurd (e (omega (arith, h)))
    go (suc k) (no h) (no e) = below k (omega (arith, h, e))

module _ {A : Type 0} {f g : ℕ → A} {n at : ℕ} {v : A} (i : Inserted f g n at v) where
  -- what holds of v and of each old value holds of each
  pub inserted_each : (P : A → Type 0) → P v → ((k : ℕ) → k < n → P (f k)) → (k : ℕ) → k < suc n → P (g k)
  inserted_each P new old = around (λ k. k < suc n → P (g k)) at
      (λ k h _. subst P (sym (i.higher k h)) (old k (omega (arith, i.inside))))
      (λ _. subst P (sym i.new) new)
      (λ k h l. subst P (sym (i.lower k h (omega arith))) (old k (omega arith)))

  -- what holds of each two neighbours, and of v and the value on either side of it, holds of each two
  pub inserted_pairs : (R : A → A → Type 0) → ((k : ℕ) → suc k < n → R (f k) (f (suc k)))
      → ((k : ℕ) → suc k ≡ at → R (f k) v) → (at < n → R v (f at)) → (k : ℕ) → suc k < suc n → R (g k) (g (suc k))
  inserted_pairs R old above below = around (λ k. suc k < suc n → R (g k) (g (suc k))) at
      (λ k h _. higher k h (ℕ_discrete (suc k) at))
      (λ l. subst₂ R (sym i.new) (sym (i.lower at (omega arith) (omega arith))) (below (omega arith)))
      (λ k h l.
      subst₂ R (sym (i.lower k h (omega arith))) (sym (i.lower (suc k) (omega arith) (omega arith))) (old k (omega arith)))
    where
      higher : (k : ℕ) → k < at → Dec (suc k ≡ at) → R (g k) (g (suc k))
      higher k h (yes e) = subst₂ R (sym (i.higher k h)) (sym (subst (λ a. g a ≡ v) (sym e) i.new)) (above k e)
      higher k h (no e) =
          let l : suc k < at = omega (arith, e) in
          subst₂ R (sym (i.higher k h)) (sym (i.higher (suc k) l)) (old k (omega (arith, i.inside)))

  -- each old value is found again
  pub inserted_old : (k : ℕ) → k < n → (m : ℕ) × (m < suc n) × (g m ≡ f k)
  inserted_old k h = go (dec_lt k at)
    where
      go : Dec (k < at) → (m : ℕ) × (m < suc n) × (g m ≡ f k)
      go (yes l) = (k, omega arith, i.higher k l)
      go (no l) = (suc k, omega arith, i.lower k (omega (arith, l)) h)

  -- the same of what is worked out of each value
  pub inserted_map : {B : Type 0} (h : A → B) → Inserted (λ k. h (f k)) (λ k. h (g k)) n at (h v)
  inserted_map h = record {
    inside = i.inside;
    higher = λ k l. ap h (i.higher k l);
    new = ap h i.new;
    lower = λ k l m. ap h (i.lower k l m);
  }

-- the sum grows by what was put in
pub inserted_sum : (f g : ℕ → ℕ) (n at v : ℕ) → Inserted f g n at v → sum_to g (suc n) ≡ sum_to f n + v
unfolding sum_to
inserted_sum f g zero at v i =
    let e : at ≡ 0 = omega (arith, i.inside) in
    omega (arith, rw e at i.new)
inserted_sum f g (suc n) at v i = go (ℕ_discrete at (suc n)) (inserted_sum f g n at v)
  where
    go : Dec (at ≡ suc n) → (Inserted f g n at v → sum_to g (suc n) ≡ sum_to f n + v) → sum_to g (suc (suc n)) ≡ sum_to f (suc n) + v
    go (yes e) r = omega (arith, sum_same g f (suc n) (λ k h. i.higher k (omega arith)), rw e at i.new)
    go (no e) r =
        let inside : at ≤ n = omega (arith, e, i.inside) in
        let less : Inserted f g n at v =
        record { inside = inside; higher = i.higher; new = i.new; lower = λ k h l. i.lower k h (omega arith) } in
        omega (arith, r less, i.lower n inside (omega arith))
