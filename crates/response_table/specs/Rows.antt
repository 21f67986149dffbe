-- A table as a slice or an array of rows, beside `Rattle.response.specs.Numbers`, where it is a slice of numbers.
use Rattle.std.specs.Prelude.{ℕ, ◌+◌, ◌-◌, ◌*◌, List, [], ◌∷◌, ◌++◌, true, false, length, replicate, set, take}
use Rattle.std.specs.declared.result.Result.{Result}
use Rattle.kinds.specs.Ranges.{in_range_rows}
use Rattle.kinds.specs.declared.Refusal.{Refusal}
use Rattle.response.specs.Alone.{alone, refused18}
use Rattle.response.specs.declared.Answer.{Answer}
use Rattle.response.specs.declared.Row.{Row}

-- stands where there is no row i
abbrev pub zero_row : Row
zero_row = record { c = 0; p = 0; delay = 0 }

-- C, p and delay of each row in turn
unfoldable pub numbers_of : List Row → List ℕ
numbers_of [] = []
numbers_of (x ∷ xs) = x.c ∷ (x.p ∷ (x.delay ∷ numbers_of xs))

-- the same, and zeros up to the 96 numbers of 32 rows
unfoldable pub filled_of : List Row → List ℕ
filled_of rows = numbers_of rows ++ replicate (96 - 3 * length rows) 0

-- the numbers with a row's three in place i
abbrev pub with_row : List ℕ → ℕ → Row → List ℕ
with_row numbers i x = set (set (set numbers (3 * i) x.c) (3 * i + 1) x.p) (3 * i + 2) x.delay

-- the answer to the call on the first n rows; over 32 is refused
unfoldable pub alone_of_first : List Row → (n own limit : ℕ) → Result Answer Refusal
alone_of_first rows n own limit = elim (in_range_rows n) [ true ↦ alone (take n rows) own limit | false ↦ refused18 ]
