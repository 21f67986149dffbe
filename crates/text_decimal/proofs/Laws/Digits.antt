-- Digits: what they say, what makes them a number, and that they are a word.
use Prim.Native.Nat.{ℕ, ◌+◌, ◌-◌, ◌*◌, ◌^◌, ◌≤◌, ◌<◌}
use mathlib.Core.Path.{◌≡◌, refl}
use mathlib.Core.Bool.{true, false, false≢true, and-eq-true_iff}
use mathlib.Core.List.{[], ◌∷◌}
use native.Mathlib.Nat.{pow-succ', mul-le-mul_right}
use native.Mathlib.Omega.{arith}
use borrow.Author.Tests.{leb-true, le-leb, lt-ltb, ltb-true, ne_eqb}
use lib.Dec.{leb, eqb}
use lib.ListN.{length}
use Rattle.text_decimal.specs.Decimal.{Text, is_digit, all_digits, value_from, value_of, too_large, is_number}
use Rattle.text_decimal.specs.Word.{space, first_word}

pub digit_bounds : (d : ℕ) → is_digit d ≡ true → (48 ≤ d) × (d ≤ 57)
digit_bounds d e = let p = (and-eq-true_iff (leb 48 d) _).0 e in (leb-true 48 d p.0, leb-true d 57 p.1)

pub bounds_digit : (d : ℕ) → 48 ≤ d → d ≤ 57 → is_digit d ≡ true
bounds_digit d h k = rw (le-leb 48 d h, le-leb d 57 k)

-- more digits say no less
pub value_least : (before : ℕ) (ds : Text) → before * 10 ^ length ds ≤ value_from before ds
unfolding value_from
value_least before [] = omega arith
value_least before (d ∷ rest) =
    let m = mul-le-mul_right {m = 10 * before} {n = 10 * before + (d - 48)} (10 ^ length rest) (omega arith) in
    rw (pow-succ' 10 (length rest)) (omega (arith, value_least (10 * before + (d - 48)) rest))

-- a number has a digit, is digits, and fits
pub number_length : (ds : Text) → is_number ds ≡ true → 1 ≤ length ds
unfolding is_number
number_length [] e = absurd (false≢true e)
number_length (d ∷ rest) e = omega arith

pub number_digits : (ds : Text) → is_number ds ≡ true → all_digits ds ≡ true
unfolding is_number all_digits
number_digits [] e = refl
number_digits (d ∷ rest) e = ((and-eq-true_iff (all_digits (d ∷ rest)) _).0 e).0

pub number_fits : (ds : Text) → is_number ds ≡ true → value_of ds < too_large
unfolding is_number value_from
number_fits [] e = omega arith
number_fits (d ∷ rest) e = ltb-true _ _ ((and-eq-true_iff (all_digits (d ∷ rest)) _).0 e).1

pub digits_number : (ds : Text) → 1 ≤ length ds → all_digits ds ≡ true → value_of ds < too_large → is_number ds ≡ true
unfolding is_number
digits_number [] l e h = absurd (omega arith)
digits_number (d ∷ rest) l e h = rw e (lt-ltb _ _ h)

pub digits_more : (d : ℕ) (ds : Text) → is_digit d ≡ true → all_digits ds ≡ true → all_digits (d ∷ ds) ≡ true
unfolding all_digits
digits_more d ds e f = rw (e, f)

-- digits are a word: there is no space among them
module _ (d : ℕ) (e : is_digit d ≡ true) where
  no_space : eqb d space ≡ false
  no_space = ne_eqb d space (λ s. omega (arith, (digit_bounds d e).0))

pub word_of_digits : (ds : Text) → all_digits ds ≡ true → first_word ds ≡ ds
unfolding first_word all_digits
word_of_digits [] e = refl
word_of_digits (d ∷ rest) e =
    let p = (and-eq-true_iff (is_digit d) _).0 e in rw (no_space d p.0, first_word, word_of_digits rest p.1)
