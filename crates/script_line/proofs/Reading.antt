-- The numbers behind the first word, read one by one.
use Prim.Native.Nat.{ℕ, ◌+◌, ◌*◌, ◌≤◌, ◌<◌}
use mathlib.Core.Path.{◌≡◌, refl, sym, ap, ◌∙◌}
use mathlib.Core.Bool.{Bool, true, false}
use mathlib.Core.List.{List, [], ◌∷◌}
use native.Mathlib.Numerals.{add-one}
use native.Mathlib.Omega.{arith}
use borrow.Author.Tests.{eqb-true}
use lib.Dec.{eqb}
use lib.ListN.{length, drop, set, get_or, drop_of_length-le, length-drop, length-set}
use lib.Seq.{drop-cons, drop-drop}
use Rattle.std.specs.Prelude.{Option, Some, None}
use Rattle.text_decimal.specs.declared.Number.{Number}
use Rattle.text_decimal.specs.Decimal.{Text, is_number, value_of}
use Rattle.text_decimal.specs.Put.{put_at}
use Rattle.text_decimal.specs.Word.{space, first_word, word_at, number_in}
use Rattle.text_decimal.proofs.Laws.Put.{put_none, put_next}
use Rattle.text_decimal.proofs.Laws.Word.{word_space, word_more, word_most}
use Rattle.text_decimal.proofs.Laws.Digits.{number_length}
use Rattle.script_line.specs.Line.{longer, words, behind, all_numbers, leading, most_bytes}
use Rattle.script_line.specs.Count.{count_of}
use Rattle.script_line.proofs.Laws.Words.{words_more, words_first}

-- A text from the end of its first word on: no word begins there, and the words behind it are there still.
behind_longer : (b : ℕ) (some : List Text) → behind (longer b some) ≡ behind some
behind_longer b [] = refl
behind_longer b (word ∷ rest) = refl

word_over : (text : Text) → first_word (drop (length (first_word text)) text) ≡ []
unfolding first_word
word_over [] = refl
word_over (b ∷ rest) = go (eqb b space) refl (word_over rest)
  where
    go : (t : Bool) → eqb b space ≡ t → first_word (drop (length (first_word rest)) rest) ≡ []
        → first_word (drop (length (first_word (b ∷ rest))) (b ∷ rest)) ≡ []
    go true e r = rw (word_space b rest e) (word_space b rest e)
    go false e r = rw (word_more b rest e) r

word_behind : (text : Text) → behind (words (drop (length (first_word text)) text)) ≡ behind (words text)
unfolding first_word words
word_behind [] = refl
word_behind (b ∷ rest) = go (eqb b space) refl (word_behind rest)
  where
    go : (t : Bool) → eqb b space ≡ t → behind (words (drop (length (first_word rest)) rest)) ≡ behind (words rest)
        → behind (words (drop (length (first_word (b ∷ rest))) (b ∷ rest))) ≡ behind (words (b ∷ rest))
    go true e r = rw (word_space b rest e)
    go false e r = rw (word_more b rest e, words_more b rest e, behind_longer b (words rest)) r

-- inside the text a space stands there, and behind it the next word
module _ (line : Text) (i : ℕ) (inside : i < length line) (over : first_word (drop i line) ≡ []) where
  space_next : drop i line ≡ space ∷ drop (i + 1) line
  space_next = go (eqb (get_or line i 0) space) refl
    where
      d : drop i line ≡ get_or line i 0 ∷ drop (i + 1) line
      d = rw (add-one i) (drop-cons line i 0 inside)

      go : (t : Bool) → eqb (get_or line i 0) space ≡ t → drop i line ≡ space ∷ drop (i + 1) line
      go true e = rw (eqb-true (get_or line i 0) space e) at d
      go false e =
          let f = word_more (get_or line i 0) (drop (i + 1) line) e in
          let k : first_word (get_or line i 0 ∷ drop (i + 1) line) ≡ [] = rw d at over in
          absurd (let z : ◌≡◌ {A = ℕ} 0 1 = cc in omega arith)

  next_word : behind (words (drop i line)) ≡ word_at line (i + 1) ∷ behind (words (drop (i + 1) line))
  unfolding words
  next_word = rw space_next (words_first (drop (i + 1) line))

-- what the answer says of the word
module _ (text : Text) (from : ℕ) where
  number_none : number_in text from ≡ None → is_number (word_at text from) ≡ false
  unfolding number_in
  number_none h = go (is_number (word_at text from)) refl
    where
      go : (t : Bool) → is_number (word_at text from) ≡ t → is_number (word_at text from) ≡ false
      go true e =
          let f : number_in text from ≡ Some (record { value = value_of (word_at text from); end = from + length (word_at text from) }) = rw (e, number_in) in
          absurd (let z : ◌≡◌ {A = ℕ} 0 1 = cc in omega arith)
      go false e = e

  abbrev Shown : Number → Type 0
  Shown number =
      (is_number (word_at text from) ≡ true)
      × ((number.value ≡ value_of (word_at text from)) × (number.end ≡ from + length (word_at text from)))

  number_some : (number : Number) → number_in text from ≡ Some number → Shown number
  unfolding number_in
  number_some number h = go (is_number (word_at text from)) refl
    where
      go : (t : Bool) → is_number (word_at text from) ≡ t → Shown number
      go true e =
          let f : number_in text from ≡ Some (record { value = value_of (word_at text from); end = from + length (word_at text from) }) = rw (e, number_in) in
          (e, ((cc), (cc)))
      go false e =
          let f : number_in text from ≡ None = rw (e, number_in) in
          absurd (let z : ◌≡◌ {A = ℕ} 0 1 = cc in omega arith)

-- i is the end of a word, n of the words behind the first are read, and what is left decides
pub record Reading (line : Text) (before numbers : List ℕ) (n i : ℕ) : Type 0 where
  pub place : i ≤ length line
  pub over : first_word (drop i line) ≡ []
  pub room : 2 * n ≤ i
  pub size : length numbers ≡ length before
  pub written : put_at before 0 (leading (behind (words line))) ≡ put_at numbers n (leading (behind (words (drop i line))))
  pub all : all_numbers (behind (words line)) ≡ all_numbers (behind (words (drop i line)))
  pub count : length (behind (words line)) ≡ n + length (behind (words (drop i line)))

-- what is answered and left in the end
abbrev pub Ends : (line : Text) → (before numbers : List ℕ) → Option ℕ → Type 0
Ends line before numbers answer =
    (answer ≡ count_of (behind (words line))) × (numbers ≡ put_at before 0 (leading (behind (words line))))

module _ (line : Text) (before : List ℕ) where
  pub reading_none : (end : ℕ) → end ≡ length (first_word line) → Reading line before before 0 end
  reading_none end e =
      rw e
      (record {
        place = word_most line;
        over = word_over line;
        room = omega arith;
        size = refl;
        written = rw (word_behind line);
        all = rw (word_behind line);
        count = rw (word_behind line) (omega arith);
      })

  module _ (numbers : List ℕ) (n i : ℕ) (o : Reading line before numbers n i) where
    pub reading_done : length line ≤ i → Ends line before numbers (Some n)
    unfolding words all_numbers leading count_of
    reading_done h =
        let e : drop i line ≡ [] = drop_of_length-le line {i = i} h in
        let a : all_numbers (behind (words line)) ≡ true = o.all ∙ rw e in
        let l : length (behind (words line)) ≡ n = o.count ∙ rw e (omega arith) in
        let w : put_at before 0 (leading (behind (words line))) ≡ put_at numbers n [] = o.written ∙ rw e in
        (rw (a, count_of, l), rw w (sym (put_none numbers n)))

    module _ (inside : i < length line) where
      next : behind (words (drop i line)) ≡ word_at line (i + 1) ∷ behind (words (drop (i + 1) line))
      next = next_word line i inside o.over

      pub reading_broken : number_in line (i + 1) ≡ None → Ends line before numbers None
      unfolding all_numbers leading count_of
      reading_broken e =
          let f = number_none line (i + 1) e in
          let a : all_numbers (behind (words line)) ≡ false = o.all ∙ rw (next, f) in
          let w : put_at before 0 (leading (behind (words line))) ≡ put_at numbers n [] = o.written ∙ rw (next, f, leading) in
          (rw (a, count_of), rw w (sym (put_none numbers n)))

      module _ (short : length line ≤ most_bytes) (long : 128 ≤ length before) where
        pub reading_fits : n < length numbers
        reading_fits = omega (arith, o.room, o.size)

        module _ (number : Number) (e : number_in line (i + 1) ≡ Some number) where
          abbrev value : ℕ
          value = number.value

          abbrev end : ℕ
          end = number.end

          is_one : is_number (word_at line (i + 1)) ≡ true
          is_one = (number_some line (i + 1) number e).0

          ended : end ≡ i + 1 + length (word_at line (i + 1))
          ended = (number_some line (i + 1) number e).1.1

          rest : drop end line ≡ drop (length (word_at line (i + 1))) (drop (i + 1) line)
          rest = rw ended (sym (drop-drop (length (word_at line (i + 1))) (i + 1) line))

          later : behind (words (drop i line)) ≡ word_at line (i + 1) ∷ behind (words (drop end line))
          later = rw (rest, word_behind (drop (i + 1) line)) next

          numbered : leading (behind (words (drop i line))) ≡ value ∷ leading (behind (words (drop end line)))
          unfolding leading
          numbered = rw (later, is_one, leading, (number_some line (i + 1) number e).1.0)

          pub reading_past : (i < end) × (end ≤ length line)
          reading_past =
              omega (arith, ended, word_most (drop (i + 1) line), length-drop (i + 1) line)

          pub reading_more : Reading line before (set numbers n value) (n + 1) end
          unfolding all_numbers
          reading_more =
              record {
                place = reading_past.1;
                over = rw rest (word_over (drop (i + 1) line));
                room = omega (arith, o.room, ended, number_length (word_at line (i + 1)) is_one);
                size = rw (length-set numbers n value) o.size;
                written = o.written ∙ (ap (put_at numbers n) numbered ∙ put_next numbers n value _ reading_fits);
                all = o.all ∙ rw (later, is_one);
                count = omega (arith, o.count, ap length later);
              }
