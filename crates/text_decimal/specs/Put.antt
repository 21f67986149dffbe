-- A text put into a buffer, and a part of one. What a call of `text_decimal`, `script_line` or `script_listing` writes stands in
-- a buffer from a given place on; the rest of the buffer is as it was.
use Rattle.std.specs.Prelude.{ℕ, ◌+◌, ◌-◌, List, ◌++◌, length, take, drop}

-- `all` with `part` in it from place `at` on
unfoldable pub put_at : (all : List ℕ) → (at : ℕ) → (part : List ℕ) → List ℕ
put_at all at part = take at all ++ (part ++ drop (at + length part) all)

-- what stands in `all` from place `at` up to `end`
unfoldable pub part_of : (all : List ℕ) → (at end : ℕ) → List ℕ
part_of all at end = take (end - at) (drop at all)
