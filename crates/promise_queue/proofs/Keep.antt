-- Laws of `keep`.
use mathlib.Core.Path.{◌≡◌, refl, ap, ◌∙◌}
use mathlib.Core.Bool.{Bool, true, false}
use mathlib.Core.List.{List, [], ◌∷◌, ◌++◌, map}
use Rattle.schedule.specs.Lists.{Every}
use Rattle.promise_queue.specs.Keep.{keep}

module _ {A : Type 0} where
  -- the first is kept, or not
  pub keep_yes : (f : A → Bool) (x : A) (xs : List A) → f x ≡ true → keep f (x ∷ xs) ≡ x ∷ keep f xs
  unfolding keep
  keep_yes f x xs e = rw (e, keep)

  pub keep_no : (f : A → Bool) (x : A) (xs : List A) → f x ≡ false → keep f (x ∷ xs) ≡ keep f xs
  unfolding keep
  keep_no f x xs e = rw (e, keep)

  pub keep_append : (f : A → Bool) (xs ys : List A) → keep f (xs ++ ys) ≡ keep f xs ++ keep f ys
  unfolding keep
  keep_append f [] ys = refl
  keep_append f (x ∷ xs) ys = go (f x) refl (keep_append f xs ys)
    where
      go : (b : Bool) → f x ≡ b → keep f (xs ++ ys) ≡ keep f xs ++ keep f ys
          → keep f (x ∷ (xs ++ ys)) ≡ keep f (x ∷ xs) ++ keep f ys
      go true e rest = rw (keep_yes f x (xs ++ ys) e, keep_yes f x xs e, rest)
      go false e rest = rw (keep_no f x (xs ++ ys) e, keep_no f x xs e, rest)

  pub keep_none : (f : A → Bool) (xs : List A) → Every (λ x. f x ≡ false) xs → keep f xs ≡ []
  unfolding keep
  keep_none f [] none = refl
  keep_none f (x ∷ xs) none = keep_no f x xs none.0 ∙ keep_none f xs none.1

  pub keep_each : (P Q : A → Type 0) (f : A → Bool) (xs : List A) → ((x : A) → f x ≡ true → P x → Q x) → Every P xs
      → Every Q (keep f xs)
  unfolding keep
  keep_each P Q f [] h e = tt
  keep_each P Q f (x ∷ xs) h e = go (f x) refl (keep_each P Q f xs h e.1)
    where
      go : (b : Bool) → f x ≡ b → Every Q (keep f xs) → Every Q (keep f (x ∷ xs))
      go true t rest = rw (keep_yes f x xs t) (h x t e.0, rest)
      go false t rest = rw (keep_no f x xs t) rest

module _ {A B : Type 0} where
  pub keep_map : (f : B → Bool) (g : A → B) (xs : List A) → keep f (map g xs) ≡ map g (keep (λ x. f (g x)) xs)
  unfolding keep
  keep_map f g [] = refl
  keep_map f g (x ∷ xs) = go (f (g x)) refl (keep_map f g xs)
    where
      fg : A → Bool
      fg y = f (g y)

      go : (b : Bool) → fg x ≡ b → keep f (map g xs) ≡ map g (keep fg xs) → keep f (g x ∷ map g xs) ≡ map g (keep fg (x ∷ xs))
      go true e rest = rw (keep_yes fg x xs e) (keep_yes f (g x) (map g xs) e ∙ ap (λ (r : List B). g x ∷ r) rest)
      go false e rest = rw (keep_no fg x xs e) (keep_no f (g x) (map g xs) e ∙ rest)
