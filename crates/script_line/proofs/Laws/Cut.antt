-- A line cut behind its 256th byte reads the same, so that no more of it need be kept.
use Prim.Native.Nat.{ℕ, zero, suc, ◌≤◌}
use mathlib.Core.Path.{◌≡◌, refl}
use mathlib.Core.Bool.{Bool, true, false}
use mathlib.Core.List.{[], ◌∷◌}
use native.Mathlib.Decide.{dec_le}
use native.Mathlib.Omega.{arith}
use borrow.Author.Tests.{lt-leb}
use lib.Dec.{eqb}
use lib.ListN.{length, take}
use lib.Seq.{take_all, length-take-le}
use Rattle.text_decimal.specs.Decimal.{Text}
use Rattle.text_decimal.specs.Word.{space, first_word}
use Rattle.text_decimal.proofs.Laws.Word.{word_space, word_more}
use Rattle.script_line.specs.declared.Line.TheVariants.{Bad}
use Rattle.script_line.specs.Phrase.{link_word}
use Rattle.script_line.specs.Line.{most_bytes, read_line, numbers_of, is_link}
use Rattle.script_line.proofs.Laws.Same.{same_cut}

-- a line that is too long
module _ (line : Text) (long : 256 ≤ length line) where
  pub long_bad : read_line line ≡ Bad
  unfolding read_line
  long_bad = rw (lt-leb (length line) most_bytes long, read_line)

  pub long_numbers : numbers_of line ≡ []
  unfolding numbers_of
  long_numbers = rw (lt-leb (length line) most_bytes long, numbers_of)

module _ (line : Text) where
  -- it is all there, or it is too long before and after
  by_length : {A : Type 0} (f : Text → A) (bad : A) → ((some : Text) → 256 ≤ length some → f some ≡ bad)
      → f (take 256 line) ≡ f line
  by_length f bad h = go (dec_le 256 (length line))
    where
      go : Dec (256 ≤ length line) → f (take 256 line) ≡ f line
      go (yes l) = rw (h line l) (h (take 256 line) (rw (length-take-le 256 line l) (omega arith)))
      go (no l) = rw (take_all 256 line (omega arith))

  pub cut_read : read_line (take 256 line) ≡ read_line line
  cut_read = by_length read_line Bad long_bad

  pub cut_numbers : numbers_of (take 256 line) ≡ numbers_of line
  cut_numbers = by_length numbers_of [] long_numbers

word_cut : (n : ℕ) (line : Text) → first_word (take n line) ≡ take n (first_word line)
unfolding first_word
word_cut zero line = refl
word_cut (suc n) [] = refl
word_cut (suc n) (b ∷ line) = go (eqb b space) refl (word_cut n line)
  where
    go : (t : Bool) → eqb b space ≡ t → first_word (take n line) ≡ take n (first_word line)
        → first_word (b ∷ take n line) ≡ take (suc n) (first_word (b ∷ line))
    go true e r = rw (word_space b (take n line) e, word_space b line e)
    go false e r = rw (word_more b (take n line) e, word_more b line e, r)

pub cut_link : (line : Text) → is_link (take 256 line) ≡ is_link line
cut_link line = rw (word_cut 256 line) (same_cut 256 (first_word line) link_word (omega arith))
