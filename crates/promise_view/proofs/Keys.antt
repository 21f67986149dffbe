-- The rows of a store as those of a plan.
use Prim.Native.Nat.{ℕ, zero, suc, ◌≤◌, ◌<◌}
use mathlib.Core.Path.{◌≡◌, refl, ap, ◌∙◌}
use mathlib.Core.Logic.{◌⊎◌, inl, inr}
use mathlib.Core.List.Memᴰ
use mathlib.Core.List.{[], ◌∷◌, ◌++◌, map, map-append}
use native.Mathlib.Omega.{arith}
use borrow.Author.Tests.{lt-ltb, le-ltb}
use Rattle.schedule.specs.Lists.{◌∈◌}
use Rattle.schedule.specs.Network.{Key, row}
use Rattle.store.specs.Layout.{Store, links_of, rows_of}
use Rattle.folds.proofs.Folds.{below}
use Rattle.open_rules.specs.Search.{row_at, rows_to}
use Rattle.promise_view.specs.View.{key_of, keys_to, keys_of, plan_of}

pub keys_are : (w : Store) (l : ℕ) → l < links_of w → keys_of w l ≡ keys_to w l (rows_of w l)
unfolding keys_of
keys_are w l h = rw (lt-ltb l (links_of w) h, keys_of)

pub no_keys : (w : Store) (l : ℕ) → links_of w ≤ l → keys_of w l ≡ []
unfolding keys_of
no_keys w l h = rw (le-ltb l (links_of w) h, keys_of)

-- two stores whose first n rows agree
pub keys_same : (w w' : Store) (l n : ℕ) → ((k : ℕ) → k < n → key_of w' l k ≡ key_of w l k) → keys_to w' l n ≡ keys_to w l n
unfolding keys_to
keys_same w w' l zero h = refl
keys_same w w' l (suc n) h = rw (keys_same w w' l n (λ k i. h k (omega arith)), h n (omega arith))

-- each of the keys is that of a row, and each row's is one
pub key_row : (w : Store) (l n : ℕ) (k : Key) → k ∈ keys_to w l n → (i : ℕ) × (i < n) × (k ≡ key_of w l i)
unfolding keys_to
key_row w l zero k m = absurd (Memᴰ.not-nil m)
key_row w l (suc n) k m = go (key_row w l n k) (Memᴰ.append_cases (keys_to w l n) m)
  where
    go : (k ∈ keys_to w l n → (i : ℕ) × (i < n) × (k ≡ key_of w l i)) → (k ∈ keys_to w l n) ⊎ (k ∈ (key_of w l n ∷ []))
        → (i : ℕ) × (i < suc n) × (k ≡ key_of w l i)
    go r (inl a) = let x : _ = r a in (x.0, omega (arith, x.1), x.2)
    go r (inr a) = (n, omega arith, Memᴰ.eq_of_singleton a)

pub row_key : (w : Store) (l n i : ℕ) → i < n → key_of w l i ∈ keys_to w l n
unfolding keys_to
row_key w l zero i h = absurd (omega arith)
row_key w l (suc n) i h = below i n h (λ a. Memᴰ.append_left (key_of w l n ∷ []) (row_key w l n i a))
    (λ e. rw e (Memᴰ.append_right (keys_to w l n) (Memᴰ.head refl)))

-- the keys' rows are the link's table
pub rows_table : (w : Store) (l n : ℕ) → map (row (plan_of w)) (keys_to w l n) ≡ rows_to w l n
unfolding keys_to rows_to
rows_table w l zero = refl
rows_table w l (suc n) =
    map-append (row (plan_of w)) (keys_to w l n) (key_of w l n ∷ [])
    ∙ ap (λ rows. rows ++ (row_at w l n ∷ [])) (rows_table w l n)
