-- The row that goes before the others, among those that may go.
use Prim.Native.Nat.{ℕ, zero, suc, ◌≤◌, ◌<◌}
use mathlib.Core.Path.{◌≡◌, refl}
use mathlib.Core.Logic.{◌⊎◌, inl, inr}
use mathlib.Core.Bool.{Bool, true, false, ◌&&◌, ◌||◌, and-eq-true_iff}
use native.Mathlib.Omega.{arith}
use lib.Dec.{eqb, ltb}
use borrow.Author.Tests.{ltb-true, ltb-false, eqb-true, eqb-false}
use Rattle.folds.proofs.Folds.{below}
use Rattle.slot_rules.specs.Pick.{goes_before, best_of}

module _ (key channel : ℕ → ℕ) where
  -- row i is not behind row k: its key is smaller, or it is the same and the channel's number is no greater
  abbrev pub Leads : (i k : ℕ) → Type 0
  Leads i k = (key i < key k) ⊎ ((key i ≡ key k) × (channel i ≤ channel k))

  before_leads : (i k : ℕ) → goes_before key channel i k ≡ true → Leads i k
  before_leads i k e = go (ltb (key i) (key k)) refl e
    where
      go : (t : Bool) → ltb (key i) (key k) ≡ t → (t || (eqb (key i) (key k) && ltb (channel i) (channel k))) ≡ true → Leads i k
      go true h f = inl (ltb-true (key i) (key k) h)
      go false h f =
          let b = (and-eq-true_iff (eqb (key i) (key k)) _).0 f in
          let m : channel i < channel k = ltb-true (channel i) (channel k) b.1 in
          inr (eqb-true (key i) (key k) b.0, omega arith)

  after_leads : (i k : ℕ) → goes_before key channel i k ≡ false → Leads k i
  after_leads i k e = go (ltb (key i) (key k)) (eqb (key i) (key k)) refl refl e
    where
      go : (t u : Bool) → ltb (key i) (key k) ≡ t → eqb (key i) (key k) ≡ u
          → (t || (u && ltb (channel i) (channel k))) ≡ false → Leads k i
      go true u h g f = absurd (let z : ◌≡◌ {A = ℕ} 0 1 = cc in omega arith)
      go false true h g f =
          let m : key i ≡ key k = eqb-true (key i) (key k) g in
          inr (omega arith, omega (arith, ltb-false (channel i) (channel k) f))
      go false false h g f =
          let n : key i ≡ key k → ⊥ = eqb-false (key i) (key k) g in
          inl (omega (arith, ltb-false (key i) (key k) h))

  leads_on : (i k m : ℕ) → Leads i k → Leads k m → Leads i m
  leads_on i k m (inl a) (inl b) = inl (omega arith)
  leads_on i k m (inl a) (inr b) = inl (omega (arith, b.0))
  leads_on i k m (inr a) (inl b) = inl (omega (arith, a.0))
  leads_on i k m (inr a) (inr b) = inr (omega (arith, a.0, b.0), omega (arith, a.1, b.1))

module _ (may : ℕ → Bool) (key channel : ℕ → ℕ) where
  -- row i is the best of the first n
  pub record Wins (n i : ℕ) : Type 0 where
    pub inside : i < n
    pub may_go : may i ≡ true
    pub leads : (k : ℕ) → k < n → may k ≡ true → Leads key channel i k

  -- what `best_of` gives: none may go, or a row that wins
  abbrev pub Best : (n r : ℕ) → Type 0
  Best n zero = (k : ℕ) → k < n → may k ≡ false
  Best n (suc i) = Wins n i

  -- one row more
  pub best_none : Best 0 0
  best_none k h = absurd (omega arith)

  pub best_pass : (n r : ℕ) → may n ≡ false → Best n r → Best (suc n) r
  best_pass n zero e f = λ k h. below k n h (λ l. f k l) (λ s. rw s e)
  best_pass n (suc i) e x = record {
    inside = omega (arith, x.inside);
    may_go = x.may_go;
    leads = λ k h m.
        below k n h (λ l. x.leads k l m) (λ s. absurd (let z : ◌≡◌ {A = ℕ} 0 1 = cc (s, e, m) in omega arith));
  }

  pub best_first : (n : ℕ) → may n ≡ true → Best n 0 → Best (suc n) (suc n)
  best_first n e f = record {
    inside = omega arith;
    may_go = e;
    leads = λ k h m.
        below k n h (λ l. absurd (let z : ◌≡◌ {A = ℕ} 0 1 = cc (f k l, m) in omega arith)) (λ s. rw s (inr (refl, omega arith)));
  }

  pub best_new : (n i : ℕ) → may n ≡ true → goes_before key channel n i ≡ true → Best n (suc i) → Best (suc n) (suc n)
  best_new n i e g x = record {
    inside = omega arith;
    may_go = e;
    leads = λ k h m.
        below k n h (λ l. leads_on key channel n i k (before_leads key channel n i g) (x.leads k l m))
        (λ s. rw s (inr (refl, omega arith)));
  }

  pub best_old : (n i : ℕ) → goes_before key channel n i ≡ false → Best n (suc i) → Best (suc n) (suc i)
  best_old n i g x = record {
    inside = omega (arith, x.inside);
    may_go = x.may_go;
    leads = λ k h m. below k n h (λ l. x.leads k l m) (λ s. rw s (after_leads key channel n i g));
  }

  over : (n i : ℕ) → may n ≡ true → (t : Bool) → goes_before key channel n i ≡ t → Best n (suc i)
      → Best (suc n) (elim t [ true ↦ suc n | false ↦ suc i ])
  over n i e true g b = best_new n i e g b
  over n i e false g b = best_old n i g b

  pub best_is : (n : ℕ) → Best n (best_of may key channel n)
  unfolding best_of
  best_is zero = best_none
  best_is (suc n) = go (may n) refl (best_of may key channel n) refl (best_is n)
    where
      go : (t : Bool) → may n ≡ t → (r : ℕ) → best_of may key channel n ≡ r → Best n (best_of may key channel n)
          → Best (suc n) (best_of may key channel (suc n))
      go false e r f b = rw (e, best_of) (best_pass n (best_of may key channel n) e b)
      go true e zero f b = rw (e, best_of, f) (best_first n e (rw f at b))
      go true e (suc i) f b = rw (e, best_of, f) (over n i e (goes_before key channel n i) refl (rw f at b))
