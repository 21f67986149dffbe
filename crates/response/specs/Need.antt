-- Document 01, "Response time", first half: what a channel needs below the rows of a link's table.
-- A row is the `Row` of the code: its C, its p and its delay. A table is a list of rows, highest priority first.
use Rattle.std.specs.Prelude.{ℕ, ◌+◌, ◌-◌, ◌*◌, ◌/◌, ◌≤◌, List, [], ◌∷◌}
use Rattle.response.specs.declared.Row.{Row}

-- "r/p rounded up"
unfoldable pub ceil : ℕ → ℕ → ℕ
ceil r p = (r + p - 1) / p

-- "for each row above, its C times r/p rounded up"
unfoldable pub work : List Row → ℕ → ℕ
work [] r = 0
work (x ∷ above) r = x.c * ceil r x.p + work above r

-- "the need at length r is C plus" that
unfoldable pub need : ℕ → List Row → ℕ → ℕ
need own above r = own + work above r

-- all C above
unfoldable pub packets : List Row → ℕ
packets [] = 0
packets (x ∷ above) = x.c + packets above

-- "The calculation starts at the sum of C and all C above"
unfoldable pub start : ℕ → List Row → ℕ
start own above = own + packets above

-- every p is at least 1, as its range says: what the laws of `work` ask of a table
abbrev pub Spaced : List Row → Type 0
Spaced [] = Unit {0}
Spaced (x ∷ above) = (1 ≤ x.p) × Spaced above
