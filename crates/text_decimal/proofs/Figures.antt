-- Numbers written and read by the definitions. Computed.
use mathlib.Core.Path.{◌≡◌, refl}
use mathlib.Core.Bool.{true, false}
use mathlib.Core.List.{[], ◌∷◌}
use Rattle.text_decimal.specs.Decimal.{Text, all_digits, value_from, value_of, is_number, spelled, decimal}

-- "18446744073709551615", the largest number of 64 bits
largest : Text
largest =
    49 ∷ 56 ∷ 52 ∷ 52 ∷ 54 ∷ 55 ∷ 52 ∷ 52 ∷ 48 ∷ 55 ∷ 51 ∷ 55 ∷ 48 ∷ 57 ∷ 53 ∷ 53 ∷ 49 ∷ 54 ∷ 49 ∷ 53 ∷ []

-- "18446744073709551616"
larger : Text
larger = 49 ∷ 56 ∷ 52 ∷ 52 ∷ 54 ∷ 55 ∷ 52 ∷ 52 ∷ 48 ∷ 55 ∷ 51 ∷ 55 ∷ 48 ∷ 57 ∷ 53 ∷ 53 ∷ 49 ∷ 54 ∷ 49 ∷ 54 ∷ []

written_0 : decimal 0 ≡ 48 ∷ []
unfolding decimal spelled
written_0 = refl

written_7 : decimal 7 ≡ 55 ∷ []
unfolding decimal spelled
written_7 = refl

written_10 : decimal 10 ≡ 49 ∷ 48 ∷ []
unfolding decimal spelled
written_10 = refl

written_1205 : decimal 1205 ≡ 49 ∷ 50 ∷ 48 ∷ 53 ∷ []
unfolding decimal spelled
written_1205 = refl

written_largest : decimal 18446744073709551615 ≡ largest
unfolding decimal spelled largest
written_largest = refl

-- "007"
zeros_in_front : value_of (48 ∷ 48 ∷ 55 ∷ []) ≡ 7
unfolding value_from
zeros_in_front = refl

empty : is_number [] ≡ false
unfolding is_number
empty = refl

-- "+1"
sign : is_number (43 ∷ 49 ∷ []) ≡ false
unfolding is_number all_digits
sign = refl

largest_read : is_number largest ≡ true
unfolding is_number all_digits value_from largest
largest_read = refl

larger_refused : is_number larger ≡ false
unfolding is_number all_digits value_from larger
larger_refused = refl

-- any number of zeros may stand in front
largest_with_zeros : is_number (48 ∷ 48 ∷ 48 ∷ largest) ≡ true
unfolding is_number all_digits value_from largest
largest_with_zeros = refl
