-- Logical times of one row's messages.
use Rattle.std.specs.Prelude.{ℕ, ◌+◌, ◌≤◌, List, [], ◌∷◌}

-- the first is at least e, and each of the others at least p after the one before
abbrev pub Spread : (p e : ℕ) → List ℕ → Type 0
Spread p e [] = Unit {0}
Spread p e (ℓ ∷ times) = (e ≤ ℓ) × Spread p (ℓ + p) times
