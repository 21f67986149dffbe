-- The word that stands at a place of a text, up to the next space or the end, and the number that it is.
use Rattle.std.specs.Prelude.{ℕ, ◌+◌, true, false, [], ◌∷◌, eqb, length, drop, Option, Some, None}
use Rattle.text_decimal.specs.declared.Number.{Number}
use Rattle.text_decimal.specs.Decimal.{Text, is_number, value_of}

abbrev pub space : ℕ
space = 32

abbrev pub line_feed : ℕ
line_feed = 10

unfoldable pub first_word : Text → Text
first_word [] = []
first_word (b ∷ rest) = elim (eqb b space) [ true ↦ [] | false ↦ b ∷ first_word rest ]

abbrev pub word_at : Text → (from : ℕ) → Text
word_at text from = first_word (drop from text)

-- the number that a word is
unfoldable pub number_of : (word : Text) → Option ℕ
number_of word = elim (is_number word) [ true ↦ Some (value_of word) | false ↦ None ]

-- its value, and where it ends
unfoldable pub number_in : Text → (from : ℕ) → Option Number
number_in text from =
    elim (is_number (word_at text from)) [
      | true ↦ Some (record { value = value_of (word_at text from); end = from + length (word_at text from) })
      | false ↦ None
    ]
