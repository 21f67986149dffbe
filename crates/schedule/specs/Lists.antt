-- Elements of a list.
use mathlib.Core.List.{List, [], ◌∷◌, Memᴰ}

-- P holds of each element
module _ {A : Type 0} (P : A → Type 0) where
  abbrev pub Every : List A → Type 0
  Every [] = Unit {0}
  Every (x ∷ xs) = P x × Every xs

infix 20 ◌∈◌
-- x is one of them
abbrev pub ◌∈◌ : {A : Type 0} → A → List A → Type 0
x ∈ xs = Memᴰ x xs
