-- Words of a script and of a listing, and a word with numbers behind it, "parted by one space".
use Rattle.std.specs.Prelude.{ℕ, List, [], ◌∷◌, ◌++◌}
use Rattle.text_decimal.specs.Decimal.{Text, decimal}
use Rattle.text_decimal.specs.Word.{space}

-- "link", "open", "offer" and "tick"
abbrev pub link_word : Text
link_word = 108 ∷ (105 ∷ (110 ∷ (107 ∷ [])))

abbrev pub open_word : Text
open_word = 111 ∷ (112 ∷ (101 ∷ (110 ∷ [])))

abbrev pub offer_word : Text
offer_word = 111 ∷ (102 ∷ (102 ∷ (101 ∷ (114 ∷ []))))

abbrev pub tick_word : Text
tick_word = 116 ∷ (105 ∷ (99 ∷ (107 ∷ [])))

-- numbers, a space before each
unfoldable pub spaced : (numbers : List ℕ) → Text
spaced [] = []
spaced (n ∷ rest) = space ∷ (decimal n ++ spaced rest)

abbrev pub phrase : (word : Text) → (numbers : List ℕ) → Text
phrase word numbers = word ++ spaced numbers
