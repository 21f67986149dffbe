-- How many numbers a line has, and what it says with them.
use Prim.Native.Nat.{ℕ, ◌+◌, ◌*◌, ◌≤◌}
use mathlib.Core.Path.{◌≡◌, refl, ap}
use mathlib.Core.Bool.{Bool, true, false, ◌&&◌, and-eq-true_iff}
use mathlib.Core.List.{List, [], ◌∷◌}
use native.Mathlib.Omega.{arith}
use borrow.Author.Tests.{leb-true, eqb-true}
use lib.Dec.{leb, eqb}
use lib.ListN.{length, length-append}
use Rattle.text_decimal.specs.Decimal.{Text, is_number}
use Rattle.text_decimal.specs.Word.{first_word}
use Rattle.text_decimal.proofs.Laws.Digits.{number_length}
use Rattle.script_line.specs.declared.Line.{Line}
use Rattle.script_line.specs.declared.Line.TheVariants.{Bad, Link, Open, Offer, Tick}
use Rattle.script_line.specs.Phrase.{link_word, open_word, offer_word, tick_word}
use Rattle.script_line.specs.Line.{words, behind, all_numbers, leading, same, asked, most_bytes, read_line, numbers_of, is_link}
use Rattle.script_line.proofs.Laws.Words.{spread, line_is}

-- a number has at least a digit, and a space before it
leading_short : (some : List Text) → 2 * length (leading some) ≤ length (spread some)
unfolding leading spread
leading_short [] = omega arith
leading_short (word ∷ rest) = go (is_number word) refl (leading_short rest)
  where
    go : (t : Bool) → is_number word ≡ t → 2 * length (leading rest) ≤ length (spread rest)
        → 2 * length (leading (word ∷ rest)) ≤ length (spread (word ∷ rest))
    go true e r = rw (e, leading, length-append word (spread rest)) (omega (arith, number_length word e))
    go false e r = rw (e, leading) (omega arith)

line_length : (line : Text) → length (spread (behind (words line))) ≤ length line
line_length line =
    let e = ap length (line_is line) in
    omega (arith, length-append (first_word line) (spread (behind (words line))))

pub leading_most : (line : Text) → length line ≤ most_bytes → length (leading (behind (words line))) ≤ 127
leading_most line h = omega (arith, leading_short (behind (words line)), line_length line)

pub all_leading : (some : List Text) → all_numbers some ≡ true → length (leading some) ≡ length some
unfolding all_numbers leading
all_leading [] e = refl
all_leading (word ∷ rest) e =
    let p = (and-eq-true_iff (is_number word) (all_numbers rest)).0 e in
    rw (p.0, leading, all_leading rest p.1)

-- what a line with this first word and so many numbers must be, to ask this
abbrev pub Fitting : (word : Text) → (count : ℕ) → Line → Type 0
Fitting word count Bad = Unit
Fitting word count Link = (same word link_word ≡ true) × (count ≡ 4)
Fitting word count (Open hops) = (same word open_word ≡ true) × (count ≡ 4 + hops)
Fitting word count Offer = (same word offer_word ≡ true) × (count ≡ 2)
Fitting word count Tick = (same word tick_word ≡ true) × (count ≡ 1)

module _ (word : Text) (count : ℕ) where
  asked_fitting : Fitting word count (asked word count)
  unfolding asked
  asked_fitting =
      go (same word link_word && eqb count 4) (same word open_word && leb 4 count) (same word offer_word && eqb count 2)
      (same word tick_word && eqb count 1) refl refl refl refl
    where
      go : (a b c d : Bool) → (same word link_word && eqb count 4) ≡ a → (same word open_word && leb 4 count) ≡ b
          → (same word offer_word && eqb count 2) ≡ c → (same word tick_word && eqb count 1) ≡ d
          → Fitting word count (asked word count)
      go true b c d e f g h =
          let p = (and-eq-true_iff (same word link_word) _).0 e in
          rw (e, asked) (p.0, eqb-true count 4 p.1)
      go false true c d e f g h =
          let p = (and-eq-true_iff (same word open_word) _).0 f in
          let l = leb-true 4 count p.1 in
          rw (e, f, asked) (p.0, omega arith)
      go false false true d e f g h =
          let p = (and-eq-true_iff (same word offer_word) _).0 g in
          rw (e, f, g, asked) (p.0, eqb-true count 2 p.1)
      go false false false true e f g h =
          let p = (and-eq-true_iff (same word tick_word) _).0 h in
          rw (e, f, g, h, asked) (p.0, eqb-true count 1 p.1)
      go false false false false e f g h = rw (e, f, g, h, asked) tt

module _ (line : Text) where
  pub numbers_most : length (numbers_of line) ≤ 127
  unfolding numbers_of
  numbers_most = go (leb (length line) most_bytes) refl
    where
      go : (t : Bool) → leb (length line) most_bytes ≡ t → length (numbers_of line) ≤ 127
      go true e = rw (e, numbers_of) (leading_most line (leb-true (length line) most_bytes e))
      go false e = rw (e, numbers_of) (omega arith)

  pub read_fitting : Fitting (first_word line) (length (numbers_of line)) (read_line line)
  unfolding read_line numbers_of
  read_fitting = go (leb (length line) most_bytes) (all_numbers (behind (words line))) refl refl
    where
      go : (s t : Bool) → leb (length line) most_bytes ≡ s → all_numbers (behind (words line)) ≡ t
          → Fitting (first_word line) (length (numbers_of line)) (read_line line)
      go true true e f =
          rw (e, f, read_line, numbers_of, all_leading (behind (words line)) f)
          (asked_fitting (first_word line) (length (behind (words line))))
      go true false e f = rw (e, f, read_line) tt
      go false t e f = rw (e, read_line) tt

  pub link_sizes : read_line line ≡ Link → (is_link line ≡ true) × (length (numbers_of line) ≡ 4)
  link_sizes e = rw e at read_fitting

  pub open_sizes : (hops : ℕ) → read_line line ≡ Open hops → (hops ≤ 123) × (length (numbers_of line) ≡ 4 + hops)
  open_sizes hops e =
      let f : Fitting (first_word line) (length (numbers_of line)) (Open hops) = rw e at read_fitting in
      (omega (arith, numbers_most), f.1)

  pub offer_sizes : read_line line ≡ Offer → length (numbers_of line) ≡ 2
  offer_sizes e =
      let f : Fitting (first_word line) (length (numbers_of line)) Offer = rw e at read_fitting in
      f.1

  pub tick_sizes : read_line line ≡ Tick → length (numbers_of line) ≡ 1
  tick_sizes e =
      let f : Fitting (first_word line) (length (numbers_of line)) Tick = rw e at read_fitting in
      f.1
