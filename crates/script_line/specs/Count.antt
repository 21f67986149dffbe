-- What is counted of the words behind the first: none where one of them is no number.
use Rattle.std.specs.Prelude.{ℕ, true, false, List, length, Option, Some, None}
use Rattle.text_decimal.specs.Decimal.{Text}
use Rattle.script_line.specs.Line.{all_numbers}

unfoldable pub count_of : List Text → Option ℕ
count_of some = elim (all_numbers some) [ true ↦ Some (length some) | false ↦ None ]
