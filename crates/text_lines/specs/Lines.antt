-- The lines of a script: document 01, "a line has at most 255 bytes before its line feed, which the last may lack".
use Rattle.std.specs.Prelude.{ℕ, Bool, true, false, List, [], ◌∷◌, ◌++◌, eqb}
use Rattle.text_decimal.specs.Decimal.{Text}
use Rattle.text_decimal.specs.Word.{line_feed}

-- the lines of a text, `before` having come since the last line feed. Nothing after the last line feed is no line.
unfoldable pub lines_from : (before : Text) → Text → List Text
lines_from [] [] = []
lines_from (b ∷ before) [] = (b ∷ before) ∷ []
lines_from before (b ∷ rest) =
    elim (eqb b line_feed) [ true ↦ before ∷ lines_from [] rest | false ↦ lines_from (before ++ (b ∷ [])) rest ]

abbrev pub lines_of : Text → List Text
lines_of script = lines_from [] script

-- the bytes before the next line feed, or all if there is none; whether there is one
unfoldable pub ahead : Text → Text
ahead [] = []
ahead (b ∷ rest) = elim (eqb b line_feed) [ true ↦ [] | false ↦ b ∷ ahead rest ]

unfoldable pub feed_ahead : Text → Bool
feed_ahead [] = false
feed_ahead (b ∷ rest) = elim (eqb b line_feed) [ true ↦ true | false ↦ feed_ahead rest ]

-- how many bytes it is
abbrev pub feed_bytes : Bool → ℕ
feed_bytes true = 1
feed_bytes false = 0

-- What is kept of a line: one byte more than it may have, so that it is seen where it has too many.
abbrev pub most_kept : ℕ
most_kept = 256
