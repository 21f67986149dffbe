-- A table as a slice of numbers: C, p and delay of each row in turn.
use Rattle.std.specs.Prelude.{ℕ, ◌%◌, ◌≤◌, List, [], ◌∷◌, ◌≡◌, Bool, true, ◌&&◌, length, eqb}
use Rattle.kinds.specs.Ranges.{in_range_c, in_range_p}
use Rattle.response.specs.declared.Row.{Row}

-- the rows that stand whole in the numbers
unfoldable pub rows_in : List ℕ → List Row
rows_in [] = []
rows_in (c ∷ []) = []
rows_in (c ∷ (p ∷ [])) = []
rows_in (c ∷ (p ∷ (delay ∷ rest))) = record { c = c; p = p; delay = delay } ∷ rows_in rest

-- no part of a row is left over
abbrev pub whole_rows : List ℕ → Bool
whole_rows numbers = eqb (length numbers % 3) 0

-- "a row's C or p" in range: its delay is not looked at
abbrev pub row_in_range : Row → Bool
row_in_range x = in_range_c x.c && in_range_p x.p

unfoldable pub rows_in_range : List Row → Bool
rows_in_range [] = true
rows_in_range (x ∷ xs) = row_in_range x && rows_in_range xs

-- What the calculation asks of the numbers that it is handed, so that no sum comes near 2 ^ 64: rows in range, and not
-- thousands of them. The bound is wide on purpose: a table may get a row more, and own packets some more.
abbrev pub roomy : ℕ
roomy = 4096

pub record Workable (table : List ℕ) (own : ℕ) : Type 0 where
  pub ranged : rows_in_range (rows_in table) ≡ true
  pub short : length table ≤ roomy
  pub small : own ≤ roomy
