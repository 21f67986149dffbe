-- A word read as a number, digit by digit.
use Prim.Native.Nat.{ℕ, ◌+◌, ◌-◌, ◌*◌, ◌^◌, ◌≤◌, ◌<◌}
use mathlib.Core.Logic.{◌⊎◌, inl, inr}
use mathlib.Core.Path.{◌≡◌, refl, sym, ap, ◌∙◌}
use mathlib.Core.Bool.{Bool, true, false, false≢true}
use mathlib.Core.List.{[], ◌∷◌}
use native.Mathlib.Nat.{one-le-pow, mul-le-mul_left}
use native.Mathlib.Numerals.{add-one}
use native.Mathlib.Omega.{arith}
use borrow.Author.Tests.{ne_eqb}
use lib.ListN.{length, get_or, drop, drop_of_length-le}
use lib.Seq.{drop-cons}
use Rattle.std.specs.Prelude.{Some, None}
use Rattle.text_decimal.specs.Decimal.{Text, is_digit, all_digits, value_from, value_of, too_large, is_number}
use Rattle.text_decimal.specs.Word.{space, first_word, word_at, number_of, number_in}
use Rattle.text_decimal.proofs.Laws.Word.{word_space, word_more}
use Rattle.text_decimal.proofs.Laws.Digits.{number_length, value_least, number_digits, number_fits, digits_number}

-- the first i bytes of a text are of its first word, and digits, which say `value`; what is left of the word says the rest
pub record Valued (text : Text) (i value : ℕ) : Type 0 where
  pub fits : value < too_large
  pub inside : length (first_word text) ≡ i + length (first_word (drop i text))
  pub digits : all_digits (first_word text) ≡ all_digits (first_word (drop i text))
  pub said : value_of (first_word text) ≡ value_from value (first_word (drop i text))

module _ (word : Text) where
  pub number_none : (is_number word ≡ true → ⊥) → None ≡ number_of word
  unfolding number_of
  number_none h = go (is_number word) refl
    where
      go : (t : Bool) → is_number word ≡ t → None ≡ number_of word
      go true e = absurd (h e)
      go false e = rw (e, number_of)

  pub number_some : is_number word ≡ true → Some (value_of word) ≡ number_of word
  unfolding number_of
  number_some e = rw (e, number_of)

  pub number_empty : length word ≡ 0 → None ≡ number_of word
  number_empty e = number_none (λ n. omega (arith, number_length word n))

module _ (text : Text) (i value : ℕ) (r : Valued text i value) where
  abbrev word : Text
  word = first_word text

  abbrev left : Text
  left = first_word (drop i text)

  -- the word ends here: with the text, or at a space
  pub ended_text : length text ≤ i → left ≡ []
  unfolding first_word
  ended_text h = rw (drop_of_length-le text {i = i} h)

  ended_length : left ≡ [] → length word ≡ i
  ended_length e = omega (arith, r.inside, ap length e)

  ended_value : left ≡ [] → 1 ≤ i → Some value ≡ number_of word
  unfolding all_digits value_from
  ended_value e some =
      let v : value ≡ value_of word = sym (r.said ∙ rw e) in
      let l : 1 ≤ length word = omega (arith, ended_length e) in
      rw v (number_some word (digits_number word l (r.digits ∙ rw e) (rw (← v) r.fits)))

  module _ (here : i < length text) where
    abbrev byte : ℕ
    byte = get_or text i 0

    abbrev more : ℕ
    more = 10 * value + (byte - 48)

    at : drop i text ≡ byte ∷ drop (i + 1) text
    at = rw (add-one i) (drop-cons text i 0 here)

    pub ended_space : byte ≡ space → left ≡ []
    ended_space e = rw at (word_space byte (drop (i + 1) text) (rw e))

    module _ (no_space : byte ≡ space → ⊥) where
      on : left ≡ byte ∷ first_word (drop (i + 1) text)
      on = rw at (word_more byte (drop (i + 1) text) (ne_eqb byte space no_space))

      pub valued_bad : is_digit byte ≡ false → None ≡ number_of word
      unfolding all_digits
      valued_bad e =
          let f : all_digits word ≡ false = r.digits ∙ rw (on, e) in
          number_none word (λ n. false≢true (sym f ∙ number_digits word n))

      pub valued_large : too_large ≤ more → None ≡ number_of word
      unfolding value_from
      valued_large h =
          let later = first_word (drop (i + 1) text) in
          let f : value_of word ≡ value_from more later = r.said ∙ rw on in
          let m = mul-le-mul_left {m = 1} {n = 10 ^ length later} more (one-le-pow (length later) 10 (omega arith)) in
          number_none word (λ n. omega (arith, f, number_fits word n, value_least more later))

      pub valued_more : is_digit byte ≡ true → (next : ℕ) → next ≡ more → next < too_large → Valued text (i + 1) next
      unfolding all_digits value_from
      valued_more e next n h = record {
        fits = h;
        inside = omega (arith, r.inside, ap length on);
        digits = r.digits ∙ rw (on, e);
        said = r.said ∙ rw (on, n);
      }

-- the number that stands at a place is that of the word there
module _ (text : Text) (from : ℕ) where
  module _ (word : Text) (there : word ≡ word_at text from) where
    pub none_at : None ≡ number_of word → None ≡ number_in text from
    unfolding number_of number_in
    none_at n = go (is_number word) refl
      where
        go : (t : Bool) → is_number word ≡ t → None ≡ number_in text from
        go true e = absurd (let f : number_of word ≡ Some (value_of word) = rw (e, number_of) in let z : ◌≡◌ {A = ℕ} 0 1 = cc in omega arith)
        go false e = let f : is_number (word_at text from) ≡ false = rw (← there) e in rw (f, number_in)

    pub some_at : (value : ℕ) → Some value ≡ number_of word
        → Some (record { value = value; end = from + length word }) ≡ number_in text from
    unfolding number_of number_in
    some_at value n = go (is_number word) refl
      where
        go : (t : Bool) → is_number word ≡ t → Some (record { value = value; end = from + length word }) ≡ number_in text from
        go true e =
            let f : is_number (word_at text from) ≡ true = rw (← there) e in
            let g : number_of word ≡ Some (value_of word) = rw (e, number_of) in
            let v : value ≡ value_of word = cc in
            rw (f, number_in, ← there, v)
        go false e = absurd (let f : number_of word ≡ None = rw (e, number_of) in let z : ◌≡◌ {A = ℕ} 0 1 = cc in omega arith)

  pub none_past : length text < from → None ≡ number_in text from
  unfolding first_word is_number
  none_past h =
      let e : drop from text ≡ [] = drop_of_length-le text {i = from} (omega arith) in
      none_at [] (rw e) (number_empty [] refl)

-- what is read so far of the text from `from` on, and where that ends
pub record Read (text : Text) (from : ℕ) (rest : Text) (i value end : ℕ) : Type 0 where
  pub rest_is : rest ≡ drop from text
  pub valued : Valued rest i value
  pub end_is : end ≡ from + i

pub read_none : (text : Text) (from : ℕ) (rest : Text) → rest ≡ drop from text → Read text from rest 0 0 from
read_none text from rest e = record {
  rest_is = e;
  valued = record { fits = omega arith; inside = omega arith; digits = refl; said = refl };
  end_is = omega arith;
}

module _ (text : Text) (from : ℕ) (rest : Text) (i value end : ℕ) (r : Read text from rest i value end) where
  there : first_word rest ≡ word_at text from
  there = ap first_word r.rest_is

  -- the text ends here, or there is a space
  abbrev pub Ended : Type 0
  Ended = length rest ≤ i ⊎ ((i < length rest) × (get_or rest i 0 ≡ space))

  ended : Ended → first_word (drop i rest) ≡ []
  ended (inl h) = ended_text rest i value r.valued h
  ended (inr h) = ended_space rest i value r.valued h.0 h.1

  pub read_nothing : Ended → end ≡ from → None ≡ number_in text from
  read_nothing h e =
      let l = ended_length rest i value r.valued (ended h) in
      none_at text from (first_word rest) there (number_empty (first_word rest) (omega (arith, l, r.end_is)))

  pub read_value : Ended → (end ≡ from → ⊥) → Some (record { value = value; end = end }) ≡ number_in text from
  read_value h e =
      let l = ended_length rest i value r.valued (ended h) in
      let v = ended_value rest i value r.valued (ended h) (omega (arith, e, r.end_is)) in
      let s = some_at text from (first_word rest) there value v in
      let k : from + length (first_word rest) ≡ end = omega (arith, l, r.end_is) in
      rw k at s

  module _ (here : i < length rest) (no_space : get_or rest i 0 ≡ space → ⊥) where
    pub read_bad : is_digit (get_or rest i 0) ≡ false → None ≡ number_in text from
    read_bad e = none_at text from (first_word rest) there (valued_bad rest i value r.valued here no_space e)

    pub read_large : too_large ≤ 10 * value + (get_or rest i 0 - 48) → None ≡ number_in text from
    read_large h = none_at text from (first_word rest) there (valued_large rest i value r.valued here no_space h)

    pub read_more : is_digit (get_or rest i 0) ≡ true → (next : ℕ) → next ≡ 10 * value + (get_or rest i 0 - 48)
        → next < too_large → Read text from rest (i + 1) next (end + 1)
    read_more e next n h = record {
      rest_is = r.rest_is;
      valued = valued_more rest i value r.valued here no_space e next n h;
      end_is = omega (arith, r.end_is);
    }
