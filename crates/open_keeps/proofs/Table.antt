-- A link's table as a list: its parts, and a row put in.
use Prim.Native.Nat.{ℕ, zero, suc, ◌≤◌, ◌<◌}
use mathlib.Core.Path.{◌≡◌, refl, sym, ◌∙◌, ap}
use mathlib.Core.List.{List, [], ◌∷◌, ◌++◌, append_assoc}
use native.Mathlib.Decide.{ℕ_discrete}
use native.Mathlib.Omega.{arith}
use lib.ListN.{drop, take-append-drop, drop_of_length-le}
use lib.Seq.{append_snoc, drop-append-le}
use Rattle.response.specs.declared.Row.{Row}
use Rattle.schedule.specs.Lists.{Every}
use Rattle.store.specs.Layout.{Store}
use Rattle.open_rules.specs.Search.{row_at, rows_to}
use Rattle.open_rules.proofs.Laws.Search.{rows_length, rows_take}
use Rattle.open_keeps.proofs.Insert.{Inserted}

module _ (w : Store) (l : ℕ) where
  -- the rows from k on, of the first n
  pub rows_from : (n k : ℕ) → List Row
  rows_from n k = drop k (rows_to w l n)

  pub rows_cut : (n k : ℕ) → k ≤ n → rows_to w l n ≡ rows_to w l k ++ rows_from n k
  unfolding rows_from
  rows_cut n k h =
      sym (take-append-drop k (rows_to w l n)) ∙ ap (λ front. front ++ drop k (rows_to w l n)) (rows_take w l n k h)

  pub rows_at : (n k : ℕ) → k < n → rows_to w l n ≡ rows_to w l k ++ (row_at w l k ∷ rows_from n (suc k))
  unfolding rows_to
  rows_at n k h = rows_cut n (suc k) (omega arith) ∙ append_snoc (rows_to w l k) (row_at w l k) (rows_from n (suc k))

  from_none : (n : ℕ) → rows_from n n ≡ []
  unfolding rows_from
  from_none n = drop_of_length-le (rows_to w l n) {i = n} (omega (arith, rows_length w l n))

  from_more : (n k : ℕ) → k ≤ n → rows_from (suc n) k ≡ rows_from n k ++ (row_at w l n ∷ [])
  unfolding rows_from rows_to
  from_more n k h = drop-append-le k (rows_to w l n) (row_at w l n ∷ []) (omega (arith, rows_length w l n))

  -- what holds of each row holds of every element
  module _ (P : Row → Type 0) where
    every_snoc : (xs : List Row) (x : Row) → Every P xs → P x → Every P (xs ++ (x ∷ []))
    every_snoc [] x e h = (h, tt)
    every_snoc (y ∷ xs) x e h = (e.0, every_snoc xs x e.1 h)

    pub every_to : (n : ℕ) → ((k : ℕ) → k < n → P (row_at w l k)) → Every P (rows_to w l n)
    unfolding rows_to
    every_to zero h = tt
    every_to (suc n) h = every_snoc (rows_to w l n) (row_at w l n) (every_to n (λ k i. h k (omega arith))) (h n (omega arith))

    pub every_from : (n at : ℕ) → at ≤ n → ((k : ℕ) → at ≤ k → k < n → P (row_at w l k)) → Every P (rows_from n at)
    every_from zero at i h =
        let e : at ≡ 0 = omega arith in
        rw (e, from_none 0) tt
    every_from (suc n) at i h = go (ℕ_discrete at (suc n)) (every_from n at)
      where
        go : Dec (at ≡ suc n) → (at ≤ n → ((k : ℕ) → at ≤ k → k < n → P (row_at w l k)) → Every P (rows_from n at))
            → Every P (rows_from (suc n) at)
        go (yes e) r = rw (e, from_none (suc n)) tt
        go (no e) r =
            let m : at ≤ n = omega (arith, e) in
            rw (from_more n at m)
            (every_snoc (rows_from n at) (row_at w l n) (r m (λ k a b. h k a (omega arith))) (h n m (omega arith)))

-- two stores whose first n rows agree
pub rows_same : (w w' : Store) (l n : ℕ) → ((k : ℕ) → k < n → row_at w' l k ≡ row_at w l k) → rows_to w' l n ≡ rows_to w l n
unfolding rows_to
rows_same w w' l zero h = refl
rows_same w w' l (suc n) h = rw (rows_same w w' l n (λ k i. h k (omega arith)), h n (omega arith))

-- a row put in at `at`: as the last, or above others
module _ (w w' : Store) (l at : ℕ) (x : Row) where
  last_inserted : (n : ℕ) → at ≡ n → Inserted (row_at w l) (row_at w' l) n at x
      → rows_to w' l (suc n) ≡ rows_to w l at ++ (x ∷ rows_from w l n at)
  unfolding rows_to
  last_inserted n e i = rw (← e, from_none w l at, rows_same w w' l at i.higher, i.new)

  pub rows_inserted : (n : ℕ) → Inserted (row_at w l) (row_at w' l) n at x
      → rows_to w' l (suc n) ≡ rows_to w l at ++ (x ∷ rows_from w l n at)
  unfolding rows_to
  rows_inserted zero i = last_inserted 0 (omega (arith, i.inside)) i
  rows_inserted (suc n) i = go (ℕ_discrete at (suc n)) (rows_inserted n)
    where
      go : Dec (at ≡ suc n)
          → (Inserted (row_at w l) (row_at w' l) n at x → rows_to w' l (suc n) ≡ rows_to w l at ++ (x ∷ rows_from w l n at))
          → rows_to w' l (suc (suc n)) ≡ rows_to w l at ++ (x ∷ rows_from w l (suc n) at)
      go (yes e) r = last_inserted (suc n) e i
      go (no e) r =
          let inside : at ≤ n = omega (arith, e, i.inside) in
          let less : Inserted (row_at w l) (row_at w' l) n at x =
          record { inside = inside; higher = i.higher; new = i.new; lower = λ k h m. i.lower k h (omega arith) } in
          rw (r less, i.lower n inside (omega arith), from_more w l n at inside)
          (append_assoc (rows_to w l at) (x ∷ rows_from w l n at) (row_at w l n ∷ []))
