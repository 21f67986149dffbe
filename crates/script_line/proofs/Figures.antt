-- Lines of a script as they are read. Computed.
use Prim.Native.Nat.{ℕ}
use Prim.Native.Char.{code}
use Prim.Native.String.{String, [] as none, ◌∷◌ as more}
use mathlib.Core.Path.{◌≡◌, refl}
use mathlib.Core.List.{List, [], ◌∷◌, map}
use Rattle.text_decimal.specs.Decimal.{Text, is_number, all_digits, value_from}
use Rattle.text_decimal.specs.Word.{first_word}
use Rattle.script_line.specs.declared.Line.{Line}
use Rattle.script_line.specs.declared.Line.TheVariants.{Bad, Link, Open, Offer, Tick}
use Rattle.script_line.specs.Line.{words, all_numbers, leading, same, asked, read_line, numbers_of}

bytes : String → Text
bytes none = []
bytes (more c rest) = code c ∷ bytes rest

-- a line, what it asks, and its numbers, as far as they read
abbrev Row : Type 0
Row = String × Line × List ℕ

rows : List Row
rows =
    ("link 0 1 0 64", Link, 0 ∷ 1 ∷ 0 ∷ 64 ∷ [])
    ∷ ("open 2 10 8 2 0 1", Open 2, 2 ∷ 10 ∷ 8 ∷ 2 ∷ 0 ∷ 1 ∷ [])
    ∷ ("open 1 2 3 4", Open 0, 1 ∷ 2 ∷ 3 ∷ 4 ∷ [])
    ∷ ("offer 3 5", Offer, 3 ∷ 5 ∷ [])
    ∷ ("tick 007", Tick, 7 ∷ [])
    ∷ ("", Bad, [])
    ∷ ("tick", Bad, [])
    ∷ ("tick 1 2", Bad, 1 ∷ 2 ∷ [])
    ∷ ("tick  1", Bad, [])
    ∷ (" tick 1", Bad, [])
    ∷ ("tick 1 ", Bad, 1 ∷ [])
    ∷ ("tick +1", Bad, [])
    ∷ ("tick 1\r", Bad, [])
    ∷ ("ticks 1", Bad, 1 ∷ [])
    ∷ ("tick 18446744073709551616", Bad, [])
    ∷ []

as_read : Row → Row
as_read row = (row.0, read_line (bytes row.0), numbers_of (bytes row.0))

rows_read : map as_read rows ≡ rows
unfolding bytes rows as_read read_line numbers_of words first_word all_numbers leading is_number all_digits value_from asked same
rows_read = refl
