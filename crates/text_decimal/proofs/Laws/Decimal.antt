-- A number written: it reads back as the same, and digits with no needless zero in front are what is written.
use Prim.Native.Nat.{ℕ, zero, suc, ◌+◌, ◌-◌, ◌*◌, ◌/◌, ◌%◌, ◌^◌, ◌≤◌, ◌<◌}
use mathlib.Core.Path.{◌≡◌, refl, ap, ◌∙◌}
use mathlib.Core.Bool.{true, and-eq-true_iff}
use mathlib.Core.List.{[], ◌∷◌, ◌++◌, append-nil}
use native.Mathlib.Decide.{dec_le}
use native.Mathlib.Nat.{zero-add, pow-suc, pow-le-pow_right, mul-le-mul_right, div-lt_iff_lt-mul}
use native.Mathlib.Omega.{arith}
use borrow.Author.Tests.{lt-ltb, le-ltb}
use lib.ListN.{length}
use Rattle.text_decimal.specs.Decimal.{Text, is_digit, all_digits, value_from, value_of, too_large, is_number, spelled, decimal}
use Rattle.text_decimal.specs.Word.{first_word}
use Rattle.text_decimal.proofs.Laws.Digits.{bounds_digit, digit_bounds, value_least, number_digits, number_fits}
use Rattle.text_decimal.proofs.Laws.Digits.{digits_number, digits_more, word_of_digits}

-- one digit, and more than one
pub spelled_one : (most n : ℕ) (after : Text) → n < 10 → spelled (suc most) n after ≡ (48 + n) ∷ after
unfolding spelled
spelled_one most n after h = rw (lt-ltb n 10 h, spelled)

pub spelled_more : (most n : ℕ) (after : Text) → 10 ≤ n
    → spelled (suc most) n after ≡ spelled most (n / 10) ((48 + n % 10) ∷ after)
unfolding spelled
spelled_more most n after h = rw (le-ltb n 10 h, spelled)

-- what is left has a digit less
pub tenth_below : (most n : ℕ) → n < 10 ^ suc most → n / 10 < 10 ^ most
tenth_below most n h = (div-lt_iff_lt-mul {k = 10} {x = n} {y = 10 ^ most} (omega arith)).1 (rw (← pow-suc) h)

by_size : {X : Type 0} (n : ℕ) → (n < 10 → X) → (10 ≤ n → X) → X
by_size {X} n one more = go (dec_le 10 n)
  where
    go : Dec (10 ≤ n) → X
    go (yes h) = more h
    go (no h) = one (omega arith)

-- what is written says the number
module _ (most n : ℕ) (after : Text) where
  value_one : n < 10 → value_from 0 (spelled (suc most) n after) ≡ value_from n after
  unfolding value_from
  value_one h = let e : 10 * 0 + (48 + n - 48) ≡ n = omega arith in rw (spelled_one most n after h, e)

  value_digit : value_from (n / 10) ((48 + n % 10) ∷ after) ≡ value_from n after
  unfolding value_from
  value_digit = let e : 10 * (n / 10) + (48 + n % 10 - 48) ≡ n = omega arith in rw e

value_spelled : (most n : ℕ) (after : Text) → n < 10 ^ most → value_from 0 (spelled most n after) ≡ value_from n after
unfolding spelled
value_spelled zero n after h = let e : n ≡ 0 = omega arith in rw e
value_spelled (suc most) n after h =
    by_size n (value_one most n after)
    (λ k.
    ap (value_from 0) (spelled_more most n after k)
    ∙ (value_spelled most (n / 10) ((48 + n % 10) ∷ after) (tenth_below most n h) ∙ value_digit most n after))

-- it is digits
digits_spelled : (most n : ℕ) (after : Text) → all_digits after ≡ true → all_digits (spelled most n after) ≡ true
unfolding spelled
digits_spelled zero n after e = e
digits_spelled (suc most) n after e =
    by_size n
    (λ h. rw (spelled_one most n after h) (digits_more (48 + n) after (bounds_digit (48 + n) (omega arith) (omega arith)) e))
    (λ h.
    rw (spelled_more most n after h)
    (digits_spelled most (n / 10) _
    (digits_more (48 + n % 10) after (bounds_digit (48 + n % 10) (omega arith) (omega arith)) e)))

-- at least one more than was there, and at most as many as there may be
length_kept : (most n : ℕ) (after : Text) → length after ≤ length (spelled most n after)
unfolding spelled
length_kept zero n after = omega arith
length_kept (suc most) n after =
    by_size n (λ h. rw (spelled_one most n after h) (omega arith))
    (λ h. rw (spelled_more most n after h) (omega (arith, length_kept most (n / 10) ((48 + n % 10) ∷ after))))

pub length_least : (most n : ℕ) (after : Text) → suc (length after) ≤ length (spelled (suc most) n after)
length_least most n after =
    by_size n (λ h. rw (spelled_one most n after h) (omega arith))
    (λ h. rw (spelled_more most n after h) (length_kept most (n / 10) ((48 + n % 10) ∷ after)))

length_most : (most n : ℕ) (after : Text) → length (spelled most n after) ≤ most + length after
unfolding spelled
length_most zero n after = omega arith
length_most (suc most) n after =
    by_size n (λ h. rw (spelled_one most n after h) (omega arith))
    (λ h. rw (spelled_more most n after h) (omega (arith, length_most most (n / 10) ((48 + n % 10) ∷ after))))

module _ (n : ℕ) where
  pub decimal_digits : all_digits (decimal n) ≡ true
  unfolding decimal all_digits
  decimal_digits = digits_spelled 20 n [] refl

  pub decimal_length : (1 ≤ length (decimal n)) × (length (decimal n) ≤ 20)
  unfolding decimal
  decimal_length = (length_least 19 n [], length_most 20 n [])

  pub decimal_word : first_word (decimal n) ≡ decimal n
  decimal_word = word_of_digits (decimal n) decimal_digits

  module _ (fits : n < too_large) where
    pub value_decimal : value_of (decimal n) ≡ n
    unfolding decimal value_from
    value_decimal = value_spelled 20 n [] (omega arith)

    pub decimal_is_number : is_number (decimal n) ≡ true
    decimal_is_number = digits_number (decimal n) decimal_length.0 decimal_digits (rw value_decimal fits)

-- the other way: the digits of what more digits say
digits_back : (ds : Text) (before most : ℕ) (after : Text) → 0 < before → all_digits ds ≡ true
    → spelled (length ds + most) (value_from before ds) after ≡ spelled most before (ds ++ after)
unfolding value_from all_digits
digits_back [] before most after pos e = rw (zero-add most)
digits_back (d ∷ rest) before most after pos e =
    let p = (and-eq-true_iff (is_digit d) _).0 e in
    let b = digit_bounds d p.0 in
    let now = 10 * before + (d - 48) in
    let s : suc (length rest) + most ≡ length rest + suc most = omega arith in
    let q : now / 10 ≡ before = omega arith in
    let r : 48 + now % 10 ≡ d = omega arith in
    rw (s, digits_back rest now (suc most) after (omega arith) p.1, spelled_more most now (rest ++ after) (omega arith), q, r)

few_digits : (before : ℕ) (ds : Text) → 0 < before → value_from before ds < too_large → length ds < 20
few_digits before ds pos h = go (dec_le 20 (length ds))
  where
    go : Dec (20 ≤ length ds) → length ds < 20
    go (yes k) =
        let l = pow-le-pow_right {n = 10} (omega arith) {i = 20} {j = length ds} k in
        let m = mul-le-mul_right {m = 1} {n = before} (10 ^ length ds) pos in
        omega (arith, value_least before ds)
    go (no k) = omega arith

back : (d : ℕ) (rest : Text) → is_number (d ∷ rest) ≡ true → 48 < d → decimal (value_of (d ∷ rest)) ≡ d ∷ rest
unfolding decimal value_from all_digits
back d rest e h =
    let p = (and-eq-true_iff (is_digit d) _).0 (number_digits (d ∷ rest) e) in
    let b = digit_bounds d p.0 in
    let first = 10 * 0 + (d - 48) in
    let few = few_digits first rest (omega arith) (number_fits (d ∷ rest) e) in
    let s : 20 ≡ length rest + suc (19 - length rest) = omega arith in
    let f : 48 + first ≡ d = omega arith in
    ap (λ (most : ℕ). spelled most (value_from first rest) []) s
    ∙ (digits_back rest first (suc (19 - length rest)) [] (omega arith) p.1
    ∙ (spelled_one (19 - length rest) first (rest ++ []) (omega arith) ∙ rw (f, append-nil)))

-- digits with no needless zero in front are what is written
pub decimal_value : (d : ℕ) (rest : Text) → is_number (d ∷ rest) ≡ true → (d ≡ 48 → rest ≡ [])
    → decimal (value_of (d ∷ rest)) ≡ d ∷ rest
unfolding decimal value_from spelled all_digits
decimal_value d rest e alone = go (dec_le d 48)
  where
    go : Dec (d ≤ 48) → decimal (value_of (d ∷ rest)) ≡ d ∷ rest
    go (yes h) =
        let p = (and-eq-true_iff (is_digit d) _).0 (number_digits (d ∷ rest) e) in
        let b = digit_bounds d p.0 in
        let z : d ≡ 48 = omega arith in
        rw (alone z, z)
    go (no h) = back d rest e (omega arith)
