-- Document 01, "The program's listing": "Numbers are decimal, .. and fit in 64 bits". A text is a list of bytes.
use Rattle.std.specs.Prelude.{ℕ, zero, suc, ◌+◌, ◌-◌, ◌*◌, ◌/◌, ◌%◌, Bool, true, false, ◌&&◌, List, [], ◌∷◌, leb, ltb}

abbrev pub Text : Type 0
Text = List ℕ

-- 0 to 9
abbrev pub is_digit : (byte : ℕ) → Bool
is_digit byte = leb 48 byte && leb byte 57

unfoldable pub all_digits : Text → Bool
all_digits [] = true
all_digits (d ∷ rest) = is_digit d && all_digits rest

-- what digits say, those before them having said `before`
unfoldable pub value_from : (before : ℕ) → Text → ℕ
value_from before [] = before
value_from before (d ∷ rest) = value_from (10 * before + (d - 48)) rest

abbrev pub value_of : Text → ℕ
value_of digits = value_from 0 digits

-- the first number that does not fit in 64 bits
abbrev pub too_large : ℕ
too_large = 18_446_744_073_709_551_616

-- A number is one or more digits, zeros in front among them, and fits in 64 bits.
unfoldable pub is_number : Text → Bool
is_number [] = false
is_number (d ∷ rest) = all_digits (d ∷ rest) && ltb (value_of (d ∷ rest)) too_large

-- A number written: its last digit, in front of it the digits of what is left. `most` is how many digits there may be; 64 bits
-- take 20.
unfoldable pub spelled : (most n : ℕ) → (after : Text) → Text
spelled zero n after = after
spelled (suc most) n after =
    elim (ltb n 10) [ true ↦ (48 + n) ∷ after | false ↦ spelled most (n / 10) ((48 + n % 10) ∷ after) ]

unfoldable pub decimal : (n : ℕ) → Text
decimal n = spelled 20 n []
