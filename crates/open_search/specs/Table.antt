-- The table in which rows are tried: C, p and delay of the new channel and of each row of a link below it.
use Rattle.std.specs.Prelude.{ℕ, zero, suc, ◌+◌, ◌*◌, List, set}
use Rattle.response.specs.declared.Row.{Row}
use Rattle.store.specs.Layout.{Store}
use Rattle.open_rules.specs.Search.{row_at}

-- a row from place `at` on
abbrev pub put_row : List ℕ → (at : ℕ) → Row → List ℕ
put_row t at x = set (set (set t at x.c) (at + 1) x.p) (at + 2) x.delay

-- the first n rows of link l below the table's first row
unfoldable pub table_written : Store → (l : ℕ) → (t : List ℕ) → (n : ℕ) → List ℕ
table_written w l t zero = t
table_written w l t (suc k) = put_row (table_written w l t k) (3 * k + 3) (row_at w l k)
