-- Rows as numbers: what the loop of `numbers_of` builds, and that the numbers of rows are read back as the rows.
use mathlib.Core.Path.{◌≡◌, refl, sym, ap, ◌∙◌}
use Prim.Native.Nat.{ℕ, zero, suc, ◌+◌, ◌-◌, ◌*◌, ◌%◌, ◌<◌, ◌≤◌}
use native.Mathlib.Omega.{arith}
use native.Mathlib.Nat.{le_refl}
use native.Mathlib.Numerals.{add-one}
use mathlib.Core.List.{List, [], ◌∷◌, ◌++◌}
use mathlib.Core.Bool.{true}
use lib.ListN.{length, replicate, take, get_or}
use lib.Seq.{length-take-le, take-suc, take-length, take-append_seam}
use Rattle.response.specs.declared.Row.{Row}
use Rattle.response.specs.Numbers.{rows_in, whole_rows}
use Rattle.response.specs.Alone.{alone, alone_on}
use Rattle.response.proofs.Laws.Alone.{alone_on_lem}
use Rattle.response_table.specs.Rows.{zero_row, numbers_of, filled_of, with_row}

-- ---- what the loop builds
-- the numbers after i turns
unfoldable pub filled : List Row → ℕ → List ℕ
filled rows zero = replicate 96 0
filled rows (suc i) = with_row (filled rows i) i (get_or rows i zero_row)

pub filled_none : (rows : List Row) → filled rows 0 ≡ replicate 96 0
unfolding filled
filled_none rows = refl

-- a turn counts with `i + 1`
pub filled_more : (rows : List Row) (i : ℕ) → filled rows (i + 1) ≡ with_row (filled rows i) i (get_or rows i zero_row)
unfolding filled
filled_more rows i = ap (filled rows) (add-one i)

-- the numbers of a row, and others behind them
abbrev lead : Row → List ℕ → List ℕ
lead z l = z.c ∷ (z.p ∷ (z.delay ∷ l))

-- the zeros behind i rows
abbrev zeros : ℕ → List ℕ
zeros i = replicate (96 - 3 * i) 0

-- a row is put behind a row
past_row : (z : Row) (l : List ℕ) (i : ℕ) (x : Row) → with_row (lead z l) (suc i) x ≡ lead z (with_row l i x)
past_row z l i x =
    let e₀ : 3 * suc i ≡ suc (suc (suc (3 * i))) = omega arith in
    let e₁ : 3 * suc i + 1 ≡ suc (suc (suc (3 * i + 1))) = omega arith in
    let e₂ : 3 * suc i + 2 ≡ suc (suc (suc (3 * i + 2))) = omega arith in
    rw (e₂, e₁, e₀) refl

-- a row is put in place of one behind rows
behind : (xs : List Row) (z : Row) (l : List ℕ) (x : Row)
    → with_row (numbers_of xs ++ lead z l) (length xs) x ≡ numbers_of (xs ++ (x ∷ [])) ++ l
unfolding numbers_of
behind [] z l x = refl
behind (w ∷ xs) z l x = past_row w (numbers_of xs ++ lead z l) (length xs) x ∙ ap (lead w) (behind xs z l x)

-- the zeros that are left have room for one more row
zeros_left : (i : ℕ) → i < 32 → zeros i ≡ lead zero_row (zeros (suc i))
zeros_left i l =
    let e : 96 - 3 * i ≡ suc (suc (suc (96 - 3 * suc i))) = omega (arith, l) in
    rw e refl

filled_first : (rows : List Row) (i : ℕ) → i ≤ length rows → length rows ≤ 32 → filled rows i ≡ numbers_of (take i rows) ++ zeros i
unfolding filled numbers_of
filled_first rows zero l few = refl
filled_first rows (suc i) l few =
    let less : i < 32 = omega (arith, l, few) in
    let below : i ≤ length rows = omega (arith, l) in
    let x : Row = get_or rows i zero_row in
    let xs : List Row = take i rows in
    ap (λ (t : List ℕ). with_row t i x)
    (filled_first rows i below few ∙ ap (λ (t : List ℕ). numbers_of xs ++ t) (zeros_left i less))
    ∙ ap (λ (k : ℕ). with_row (numbers_of xs ++ lead zero_row (zeros (suc i))) k x) (sym (length-take-le i rows below))
    ∙ behind xs zero_row (zeros (suc i)) x ∙ ap (λ (t : List Row). numbers_of t ++ zeros (suc i)) (sym (take-suc rows i zero_row l))

-- the loop's end
pub filled_all : (rows : List Row) (i : ℕ) → i ≡ length rows → length rows ≤ 32 → filled rows i ≡ filled_of rows
unfolding filled_of
filled_all rows i end few =
    ap (filled rows) end ∙ filled_first rows (length rows) (le_refl (length rows)) few
    ∙ ap (λ (t : List Row). numbers_of t ++ zeros (length rows)) (take-length rows)

-- for the proof of the loop
pub ruleset filling = (filled_none, filled_more, filled_all)

-- ---- the numbers are read back as the rows
pub length_numbers_of : (rows : List Row) → length (numbers_of rows) ≡ 3 * length rows
unfolding numbers_of
length_numbers_of [] = refl
length_numbers_of (x ∷ rows) = omega (arith, length_numbers_of rows)

pub rows_in_numbers_of : (rows : List Row) → rows_in (numbers_of rows) ≡ rows
unfolding rows_in numbers_of
rows_in_numbers_of [] = refl
rows_in_numbers_of (x ∷ rows) = ap (λ (t : List Row). x ∷ t) (rows_in_numbers_of rows)

three_whole : (n : ℕ) → (3 * n) % 3 ≡ 0
three_whole n = omega arith

whole_numbers_of : (rows : List Row) → whole_rows (numbers_of rows) ≡ true
whole_numbers_of rows = rw (length_numbers_of rows, three_whole (length rows)) refl

pub alone_on_numbers_of : (rows : List Row) (own limit : ℕ) → alone_on (numbers_of rows) own limit ≡ alone rows own limit
alone_on_numbers_of rows own limit =
    alone_on_lem (numbers_of rows) own limit (whole_numbers_of rows) ∙ ap (λ (t : List Row). alone t own limit) (rows_in_numbers_of rows)

-- the answer on the part of the array that the rows fill
pub alone_on_filled_of : (rows : List Row) (own limit : ℕ)
    → alone_on (take (3 * length rows) (filled_of rows)) own limit ≡ alone rows own limit
unfolding filled_of
alone_on_filled_of rows own limit =
    ap (λ (k : ℕ). alone_on (take k (filled_of rows)) own limit) (sym (length_numbers_of rows))
    ∙ ap (λ (t : List ℕ). alone_on t own limit) (take-append_seam (numbers_of rows) (zeros (length rows)))
    ∙ alone_on_numbers_of rows own limit
