-- Laws of `total`, a sum over a list.
use Prim.Native.Nat.{ℕ, ◌+◌, ◌≤◌, ◌<◌}
use mathlib.Core.Path.{◌≡◌, refl, ap}
use mathlib.Core.List.Memᴰ
use mathlib.Core.List.{List, [], ◌∷◌, ◌++◌, map}
use native.Mathlib.Omega.{arith}
use Rattle.schedule.specs.Due.{total}
use Rattle.schedule.specs.Lists.{◌∈◌}

module _ {A : Type 0} where
  pub total_le : (f g : A → ℕ) (xs : List A) → ((x : A) → x ∈ xs → f x ≤ g x) → total f xs ≤ total g xs
  unfolding total
  total_le f g [] h = omega arith
  total_le f g (x ∷ xs) h =
      omega (arith, h x (Memᴰ.head refl), total_le f g xs (λ y m. h y (Memᴰ.tail m)))

  pub total_lt : (f g : A → ℕ) (xs : List A) → ((x : A) → x ∈ xs → f x ≤ g x) → (x : A) → x ∈ xs → f x < g x
      → total f xs < total g xs
  unfolding total
  total_lt f g [] h x within l = elim within [ ]
  total_lt f g (y ∷ ys) h x (Memᴰ.head e) l =
      omega (arith, ap f e, ap g e, total_le f g ys (λ z m. h z (Memᴰ.tail m)))
  total_lt f g (y ∷ ys) h x (Memᴰ.tail m) l =
      omega (arith, h y (Memᴰ.head refl), total_lt f g ys (λ z n. h z (Memᴰ.tail n)) x m l)

  pub total_in : (f : A → ℕ) (xs : List A) (x : A) → x ∈ xs → f x ≤ total f xs
  unfolding total
  total_in f [] x within = elim within [ ]
  total_in f (y ∷ ys) x (Memᴰ.head e) = omega (arith, ap f e)
  total_in f (y ∷ ys) x (Memᴰ.tail m) = omega (arith, total_in f ys x m)

  pub total_insert : (f : A → ℕ) (xs ys : List A) (x : A) → total f (xs ++ (x ∷ ys)) ≡ f x + total f (xs ++ ys)
  unfolding total
  total_insert f [] ys x = refl
  total_insert f (y ∷ xs) ys x = omega (arith, total_insert f xs ys x)

  pub total_map : {B : Type 0} (f : B → ℕ) (g : A → B) (xs : List A) → total f (map g xs) ≡ total (λ x. f (g x)) xs
  unfolding total
  total_map f g [] = refl
  total_map f g (x ∷ xs) = ap (λ n. f (g x) + n) (total_map f g xs)
