-- Laws of lists and of `Every`.
use Prim.Native.Nat.{ℕ, suc, ◌≤◌, ◌<◌}
use mathlib.Core.Path.{◌≡◌, refl, ap, sym, ◌∙◌}
use mathlib.Core.Logic.{◌⊎◌, inl, inr}
use mathlib.Core.List.Memᴰ
use mathlib.Core.List.{List, [], ◌∷◌, ◌++◌, map}
use native.Mathlib.Omega.{arith}
use lib.ListN.{length, take, drop, get_or}
use lib.Seq.{take_at, drop_at, get_or_at, drop-append-le, split_at, length-take-le}
use Rattle.schedule.specs.Lists.{Every, ◌∈◌}

module _ {A : Type 0} where
  -- a list has one front part of a length, and one element after it
  pub same_before : (xs xs' ys ys' : List A) → xs ++ ys ≡ xs' ++ ys' → length xs ≡ length xs' → xs ≡ xs'
  same_before xs xs' ys ys' e n =
      sym (take_at xs ys (length xs) refl) ∙ (ap (take (length xs)) e ∙ take_at xs' ys' (length xs) (sym n))

  pub same_at : (xs xs' ys ys' : List A) (x x' : A) → xs ++ (x ∷ ys) ≡ xs' ++ (x' ∷ ys') → length xs ≡ length xs' → x ≡ x'
  same_at xs xs' ys ys' x x' e n =
      sym (get_or_at xs x ys x (length xs) refl)
      ∙ (ap (λ l. get_or l (length xs) x) e ∙ get_or_at xs' x' ys' x (length xs) (sym n))

  -- the element after the first k, and what stands before and after it
  pub record Split (xs : List A) (k : ℕ) : Type 0 where
    pub before : List A
    pub at : A
    pub after : List A
    pub whole : xs ≡ before ++ (at ∷ after)
    pub count : length before ≡ k

  pub split : (xs : List A) (k : ℕ) → A → k < length xs → Split xs k
  split xs k d h = record {
    before = take k xs;
    at = get_or xs k d;
    after = drop (suc k) xs;
    whole = split_at xs k d h;
    count = length-take-le k xs (omega arith);
  }

  -- an element of a list with x put in is x, or was there before
  pub in_insert : (xs ys : List A) (x y : A) → y ∈ xs ++ (x ∷ ys) → (y ≡ x) ⊎ (y ∈ xs ++ ys)
  in_insert [] ys x y m = Memᴰ.cases_cons m
  in_insert (z ∷ xs) ys x y (Memᴰ.head e) = inr (Memᴰ.head e)
  in_insert (z ∷ xs) ys x y (Memᴰ.tail m) = go (in_insert xs ys x y m)
    where
      go : (y ≡ x) ⊎ (y ∈ xs ++ ys) → (y ≡ x) ⊎ (y ∈ z ∷ (xs ++ ys))
      go (inl e) = inl e
      go (inr n) = inr (Memᴰ.tail n)

  module _ (P : A → Type 0) where
    pub every_append : (xs ys : List A) → Every P xs → Every P ys → Every P (xs ++ ys)
    every_append [] ys a b = b
    every_append (x ∷ xs) ys a b = (a.0, every_append xs ys a.1 b)

    pub every_split : (xs ys : List A) → Every P (xs ++ ys) → Every P xs × Every P ys
    every_split [] ys e = (tt, e)
    every_split (x ∷ xs) ys e = let rest : _ = every_split xs ys e.1 in ((e.0, rest.0), rest.1)

    pub every_insert : (xs ys : List A) (x : A) → Every P (xs ++ ys) → P x → Every P (xs ++ (x ∷ ys))
    every_insert [] ys x e h = (h, e)
    every_insert (y ∷ xs) ys x e h = (e.0, every_insert xs ys x e.1 h)

    -- what holds of all after the front part xs holds of an element that no fewer stand before
    pub every_later : (xs ys before after : List A) (x : A) → xs ++ ys ≡ before ++ (x ∷ after)
        → length xs ≤ length before → Every P ys → P x
    every_later xs ys before after x e h all =
        let cut : drop (length xs) (before ++ (x ∷ after)) ≡ _ = drop-append-le (length xs) before (x ∷ after) h in
        let back : ys ≡ drop (length xs) before ++ (x ∷ after) =
        sym (drop_at xs ys (length xs) refl) ∙ (ap (drop (length xs)) e ∙ cut) in
        (every_split (drop (length xs) before) (x ∷ after) (rw (← back) all)).1.0

    pub every_imp : (Q : A → Type 0) (xs : List A) → ((x : A) → P x → Q x) → Every P xs → Every Q xs
    every_imp Q [] h e = tt
    every_imp Q (x ∷ xs) h e = (h x e.0, every_imp Q xs h e.1)

    -- what holds of every image holds of the image of each
    pub every_map : {B : Type 0} (f : B → A) (xs : List B) → Every P (map f xs) → (x : B) → x ∈ xs → P (f x)
    every_map f [] e x within = elim within [ ]
    every_map f (y ∷ ys) e x (Memᴰ.head same) = rw same e.0
    every_map f (y ∷ ys) e x (Memᴰ.tail m) = every_map f ys e.1 x m
