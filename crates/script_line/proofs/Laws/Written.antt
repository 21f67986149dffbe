-- What is written reads back: a phrase is a line whose words are its word and its numbers.
use Prim.Native.Nat.{ℕ, ◌+◌, ◌-◌, ◌*◌, ◌≤◌, ◌<◌}
use mathlib.Core.Path.{◌≡◌, refl, ◌∙◌}
use mathlib.Core.Bool.{true}
use mathlib.Core.List.{List, [], ◌∷◌, map}
use native.Mathlib.Omega.{arith}
use borrow.Author.Tests.{le-leb}
use lib.ListN.{length, length-append, length-map}
use Rattle.text_decimal.specs.Decimal.{Text, too_large, decimal}
use Rattle.text_decimal.specs.Word.{first_word}
use Rattle.text_decimal.proofs.Laws.Decimal.{decimal_length, decimal_word, decimal_is_number, value_decimal}
use Rattle.script_line.specs.declared.Line.{Line}
use Rattle.script_line.specs.declared.Line.TheVariants.{Link, Open, Offer, Tick}
use Rattle.script_line.specs.Phrase.{link_word, open_word, offer_word, tick_word, spaced, phrase}
use Rattle.script_line.specs.Line.{words, behind, all_numbers, leading, same, asked, most_bytes, read_line, numbers_of}
use Rattle.script_line.proofs.Laws.Words.{spread, NoSpace, words_first, words_joined}

-- numbers that fit in 64 bits
abbrev pub AllFit : List ℕ → Type 0
AllFit [] = Unit
AllFit (n ∷ rest) = (n < too_large) × AllFit rest

spread_decimals : (numbers : List ℕ) → spread (map decimal numbers) ≡ spaced numbers
unfolding spread spaced
spread_decimals [] = refl
spread_decimals (n ∷ rest) = rw (spread_decimals rest)

decimals_no_space : (numbers : List ℕ) → NoSpace (map decimal numbers)
decimals_no_space [] = tt
decimals_no_space (n ∷ rest) = (decimal_word n, decimals_no_space rest)

pub leading_decimals : (numbers : List ℕ) → AllFit numbers → leading (map decimal numbers) ≡ numbers
unfolding leading
leading_decimals [] h = refl
leading_decimals (n ∷ rest) h =
    rw (decimal_is_number n h.0, leading, value_decimal n h.0, leading_decimals rest h.1)

pub all_decimals : (numbers : List ℕ) → AllFit numbers → all_numbers (map decimal numbers) ≡ true
unfolding all_numbers
all_decimals [] h = refl
all_decimals (n ∷ rest) h = rw (decimal_is_number n h.0, all_decimals rest h.1)

-- a number takes at most 20 digits, and a space
spaced_length : (numbers : List ℕ) → length (spaced numbers) ≤ 21 * length numbers
unfolding spaced
spaced_length [] = omega arith
spaced_length (n ∷ rest) =
    rw (length-append (decimal n) (spaced rest)) (omega (arith, (decimal_length n).1, spaced_length rest))

pub phrase_length : (word : Text) (numbers : List ℕ) → length (phrase word numbers) ≤ length word + 21 * length numbers
phrase_length word numbers = rw (length-append word (spaced numbers)) (omega (arith, spaced_length numbers))

module _ (word : Text) (numbers : List ℕ) (one : first_word word ≡ word) where
  pub phrase_words : words (phrase word numbers) ≡ word ∷ map decimal numbers
  phrase_words =
      rw (← spread_decimals numbers) (words_joined word (map decimal numbers) (one, decimals_no_space numbers))

  pub phrase_first : first_word (phrase word numbers) ≡ word
  phrase_first = let f = words_first (phrase word numbers) in let w = phrase_words in cc

  module _ (fit : AllFit numbers) where
    pub phrase_numbers : leading (behind (words (phrase word numbers))) ≡ numbers
    phrase_numbers = rw phrase_words (leading_decimals numbers fit)

    pub phrase_all : all_numbers (behind (words (phrase word numbers))) ≡ true
    phrase_all = rw phrase_words (all_decimals numbers fit)

    module _ (short : length (phrase word numbers) ≤ most_bytes) where
      pub phrase_read : read_line (phrase word numbers) ≡ asked word (length numbers)
      unfolding read_line
      phrase_read =
          rw (
            le-leb (length (phrase word numbers)) most_bytes short,
            phrase_all,
            read_line,
            phrase_first,
            phrase_words,
            length-map numbers decimal,
          )

      pub phrase_numbers_of : numbers_of (phrase word numbers) ≡ numbers
      unfolding numbers_of
      phrase_numbers_of =
          rw (le-leb (length (phrase word numbers)) most_bytes short, numbers_of) phrase_numbers

-- a line is read as this, with these numbers
abbrev pub ReadAs : Text → Line → List ℕ → Type 0
ReadAs line what numbers = (read_line line ≡ what) × (numbers_of line ≡ numbers)

pub open_asked : (count : ℕ) → 4 ≤ count → asked open_word count ≡ Open (count - 4)
unfolding asked same
open_asked count h = rw (le-leb 4 count h, asked)

-- the four that ask something; only an `open` can be too long
module _ (from to horizon buffer : ℕ) where
  abbrev linked : List ℕ
  linked = from ∷ to ∷ horizon ∷ buffer ∷ []

  pub link_written_lem : AllFit linked → ReadAs (phrase link_word linked) Link linked
  unfolding asked same first_word
  link_written_lem fit =
      let short : length (phrase link_word linked) ≤ most_bytes = omega (arith, phrase_length link_word linked) in
      (phrase_read link_word linked refl fit short, phrase_numbers_of link_word linked refl fit short)

module _ (c p d b : ℕ) (route : List ℕ) where
  abbrev opened : List ℕ
  opened = c ∷ p ∷ d ∷ b ∷ route

  pub open_written : AllFit opened → length (phrase open_word opened) ≤ most_bytes
      → ReadAs (phrase open_word opened) (Open (length route)) opened
  unfolding first_word
  open_written fit short =
      let e : length opened - 4 ≡ length route = omega arith in (
        phrase_read open_word opened refl fit short ∙ (open_asked (length opened) (omega arith) ∙ rw e),
        phrase_numbers_of open_word opened refl fit short,
      )

module _ (channel packets : ℕ) where
  abbrev offered : List ℕ
  offered = channel ∷ packets ∷ []

  pub offer_written : AllFit offered → ReadAs (phrase offer_word offered) Offer offered
  unfolding asked same first_word
  offer_written fit =
      let short : length (phrase offer_word offered) ≤ most_bytes = omega (arith, phrase_length offer_word offered) in
      (phrase_read offer_word offered refl fit short, phrase_numbers_of offer_word offered refl fit short)

pub tick_written : (slots : ℕ) → slots < too_large → ReadAs (phrase tick_word (slots ∷ [])) Tick (slots ∷ [])
unfolding asked same first_word
tick_written slots fit =
    let short : length (phrase tick_word (slots ∷ [])) ≤ most_bytes = omega (arith, phrase_length tick_word (slots ∷ [])) in
    (phrase_read tick_word (slots ∷ []) refl (fit, tt) short, phrase_numbers_of tick_word (slots ∷ []) refl (fit, tt) short)
