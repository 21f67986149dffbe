-- A line of a script: document 01, "The program's listing". A line here is the bytes before its line feed.
use Rattle.std.specs.Prelude.{ℕ, ◌-◌, Bool, true, false, ◌&&◌, cond, List, [], ◌∷◌, leb, eqb, length}
use Rattle.text_decimal.specs.Decimal.{Text, is_number, value_of}
use Rattle.text_decimal.specs.Word.{space, first_word}
use Rattle.script_line.specs.declared.Line.{Line}
use Rattle.script_line.specs.declared.Line.TheVariants.{Bad, Link, Open, Offer, Tick}
use Rattle.script_line.specs.Phrase.{link_word, open_word, offer_word, tick_word}

-- the words of a line: it is cut at each space, so that two spaces have an empty word between them
abbrev pub longer : (byte : ℕ) → List Text → List Text
longer byte [] = (byte ∷ []) ∷ []
longer byte (word ∷ rest) = (byte ∷ word) ∷ rest

unfoldable pub words : Text → List Text
words [] = [] ∷ []
words (b ∷ rest) = elim (eqb b space) [ true ↦ [] ∷ words rest | false ↦ longer b (words rest) ]

-- those behind the first
abbrev pub behind : List Text → List Text
behind [] = []
behind (word ∷ rest) = rest

unfoldable pub all_numbers : List Text → Bool
all_numbers [] = true
all_numbers (word ∷ rest) = is_number word && all_numbers rest

-- the numbers that words are, up to the first that is none
unfoldable pub leading : List Text → List ℕ
leading [] = []
leading (word ∷ rest) = elim (is_number word) [ true ↦ value_of word ∷ leading rest | false ↦ [] ]

unfoldable pub same : Text → Text → Bool
same [] [] = true
same [] (b ∷ rest) = false
same (a ∷ others) [] = false
same (a ∷ others) (b ∷ rest) = eqb a b && same others rest

-- "`link` from, to, horizon, buffer; `open` C, p, D, B, route; `offer` channel, packets; `tick` slots". The route has what is
-- left of an `open`, be it nothing or too much: that is for the call to refuse.
unfoldable pub asked : (word : Text) → (count : ℕ) → Line
asked word count =
    cond (same word link_word && eqb count 4) Link
    (cond (same word open_word && leb 4 count) (Open (count - 4))
    (cond (same word offer_word && eqb count 2) Offer
    (cond (same word tick_word && eqb count 1) Tick Bad)))

-- "a line has at most 255 bytes before its line feed"
abbrev pub most_bytes : ℕ
most_bytes = 255

-- places in a buffer for its numbers, of which each takes at least two bytes
abbrev pub most_numbers : ℕ
most_numbers = 128

-- what a line asks, and the numbers that it gives, as far as they read
unfoldable pub read_line : Text → Line
read_line line =
    elim (leb (length line) most_bytes) [
      | true ↦ elim (all_numbers (behind (words line))) [
        | true ↦ asked (first_word line) (length (behind (words line)))
        | false ↦ Bad
      ]
      | false ↦ Bad
    ]

unfoldable pub numbers_of : Text → List ℕ
numbers_of line = elim (leb (length line) most_bytes) [ true ↦ leading (behind (words line)) | false ↦ [] ]

-- "the first line whose first word is not `link`"
abbrev pub is_link : Text → Bool
is_link line = same (first_word line) link_word
