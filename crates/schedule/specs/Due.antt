-- How much work can be due: the demand of a row, and of a table, in a stretch of time.
use Rattle.std.specs.Prelude.{ℕ, ◌+◌, ◌-◌, ◌*◌, ◌/◌, List, [], ◌∷◌}
use Rattle.response.specs.declared.Row.{Row}

-- how many of the times e, e + p, e + 2p, .. are at most x: 0 where x < e, else (x − e) / p + 1. The minus stops at 0.
unfoldable pub jobs : (e x p : ℕ) → ℕ
jobs e x p = (x + p - e) / p

-- a row's demand: the most packets that can have logical times from s on and deadlines up to x
unfoldable pub demand : Row → (s x : ℕ) → ℕ
demand y s x = y.c * jobs (s + y.delay) x y.p

-- the sum of f over a list
unfoldable pub total : {A : Type 0} → (A → ℕ) → List A → ℕ
total f [] = 0
total f (x ∷ xs) = f x + total f xs

-- the table's demand
abbrev pub due : List Row → (s x : ℕ) → ℕ
due rows s x = total (λ y. demand y s x) rows
