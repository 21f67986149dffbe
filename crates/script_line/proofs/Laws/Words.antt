-- Words and lines are one and the same thing: a line cut into its words and joined again is the line, and words without a space
-- that are joined and cut again are the words.
use Prim.Native.Nat.{ℕ}
use mathlib.Core.Path.{◌≡◌, refl}
use mathlib.Core.Bool.{Bool, true, false}
use mathlib.Core.List.{List, [], ◌∷◌, ◌++◌, append-nil}
use native.Mathlib.Omega.{arith}
use borrow.Author.Tests.{eqb-true}
use lib.Dec.{eqb}
use Rattle.text_decimal.specs.Decimal.{Text}
use Rattle.text_decimal.specs.Word.{space, first_word}
use Rattle.text_decimal.proofs.Laws.Word.{word_more, word_space}
use Rattle.script_line.specs.Line.{longer, words, behind}

-- words with a space before each, and with one space between
unfoldable pub spread : List Text → Text
spread [] = []
spread (word ∷ rest) = space ∷ (word ++ spread rest)

abbrev pub joined : List Text → Text
joined [] = []
joined (word ∷ rest) = word ++ spread rest

-- words that have no space
abbrev pub NoSpace : List Text → Type 0
NoSpace [] = Unit
NoSpace (word ∷ rest) = (first_word word ≡ word) × NoSpace rest

-- a byte that is no space belongs to the first word
pub words_more : (b : ℕ) (rest : Text) → eqb b space ≡ false → words (b ∷ rest) ≡ longer b (words rest)
unfolding words
words_more b rest e = rw (e, words)

words_space : (b : ℕ) (rest : Text) → eqb b space ≡ true → words (b ∷ rest) ≡ [] ∷ words rest
unfolding words
words_space b rest e = rw (e, words)

-- a line has at least one word, and the first is its first word
pub words_first : (line : Text) → words line ≡ first_word line ∷ behind (words line)
unfolding words first_word
words_first [] = refl
words_first (b ∷ rest) = go (eqb b space) refl (words_first rest)
  where
    go : (t : Bool) → eqb b space ≡ t → words rest ≡ first_word rest ∷ behind (words rest)
        → words (b ∷ rest) ≡ first_word (b ∷ rest) ∷ behind (words (b ∷ rest))
    go true e r = rw (words_space b rest e, word_space b rest e)
    go false e r = rw (words_more b rest e, word_more b rest e, r)

module _ (some : List Text) (word : Text) (others : List Text) (e : some ≡ word ∷ others) where
  joined_longer : (b : ℕ) → joined (longer b some) ≡ b ∷ joined some
  joined_longer b = rw e

  joined_space : joined ([] ∷ some) ≡ space ∷ joined some
  unfolding spread
  joined_space = rw e

  no_space_longer : (b : ℕ) → eqb b space ≡ false → NoSpace some → NoSpace (longer b some)
  no_space_longer b f h =
      let k : NoSpace (word ∷ others) = rw e at h in
      rw e (rw (word_more b word f, k.0), k.1)

-- a line cut and joined is the line
pub joined_words : (line : Text) → joined (words line) ≡ line
unfolding words spread
joined_words [] = refl
joined_words (b ∷ rest) = go (eqb b space) refl (joined_words rest)
  where
    go : (t : Bool) → eqb b space ≡ t → joined (words rest) ≡ rest → joined (words (b ∷ rest)) ≡ b ∷ rest
    go true e r =
        rw (words_space b rest e, joined_space (words rest) _ _ (words_first rest), r, eqb-true b space e)
    go false e r = rw (words_more b rest e, joined_longer (words rest) _ _ (words_first rest) b, r)

-- it is its first word, and the others behind it
pub line_is : (line : Text) → first_word line ++ spread (behind (words line)) ≡ line
line_is line = rw (words_first line) at (joined_words line)

pub words_no_space : (line : Text) → NoSpace (words line)
unfolding words first_word
words_no_space [] = (refl, tt)
words_no_space (b ∷ rest) = go (eqb b space) refl (words_no_space rest)
  where
    go : (t : Bool) → eqb b space ≡ t → NoSpace (words rest) → NoSpace (words (b ∷ rest))
    go true e r = rw (words_space b rest e) (refl, r)
    go false e r = rw (words_more b rest e) (no_space_longer (words rest) _ _ (words_first rest) b e r)

-- a word without a space: none of its bytes is one
no_space_first : (b : ℕ) (word : Text) → first_word (b ∷ word) ≡ b ∷ word → eqb b space ≡ false
no_space_first b word h = go (eqb b space) refl
  where
    go : (t : Bool) → eqb b space ≡ t → eqb b space ≡ false
    go true e = absurd (let f = word_space b word e in let z : ◌≡◌ {A = ℕ} 0 1 = cc in omega arith)
    go false e = e

no_space_rest : (b : ℕ) (word : Text) → first_word (b ∷ word) ≡ b ∷ word → first_word word ≡ word
no_space_rest b word h = let f = word_more b word (no_space_first b word h) in cc

-- such a word is a line of one word; and a line of one word more, with a space behind it
words_one : (word : Text) → first_word word ≡ word → words word ≡ word ∷ []
unfolding words
words_one [] h = refl
words_one (b ∷ word) h =
    rw (words_more b word (no_space_first b word h), words_one word (no_space_rest b word h))

words_cut : (word rest : Text) → first_word word ≡ word → words (word ++ (space ∷ rest)) ≡ word ∷ words rest
unfolding words
words_cut [] rest h = refl
words_cut (b ∷ word) rest h =
    rw (words_more b (word ++ (space ∷ rest)) (no_space_first b word h), words_cut word rest (no_space_rest b word h))

-- words joined and cut are the words
pub words_joined : (word : Text) (rest : List Text) → NoSpace (word ∷ rest) → words (joined (word ∷ rest)) ≡ word ∷ rest
unfolding spread
words_joined word [] h = rw append-nil (words_one word h.0)
words_joined word (next ∷ rest) h = rw (words_cut word (next ++ spread rest) h.0, words_joined next rest h.1)
