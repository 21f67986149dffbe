-- Some of a list.
use Rattle.std.specs.Prelude.{Bool, true, false, List, [], ◌∷◌}

-- those of which the test holds, in their order
unfoldable pub keep : {A : Type 0} → (A → Bool) → List A → List A
keep f [] = []
keep f (x ∷ xs) = elim (f x) [ true ↦ x ∷ keep f xs | false ↦ keep f xs ]
