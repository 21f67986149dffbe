-- A whole line: it is too long, or a word behind the first is no number, or all are.
use Prim.Native.Nat.{ℕ, ◌≤◌}
use mathlib.Core.Path.{◌≡◌, refl}
use mathlib.Core.Bool.{Bool, true, false}
use native.Mathlib.Omega.{arith}
use borrow.Author.Tests.{le-leb}
use lib.ListN.{length}
use Rattle.std.specs.Prelude.{Some, None}
use Rattle.text_decimal.specs.Decimal.{Text}
use Rattle.text_decimal.specs.Word.{first_word}
use Rattle.text_decimal.proofs.Laws.Put.{put_none}
use Rattle.script_line.specs.declared.Line.TheVariants.{Bad}
use Rattle.script_line.specs.Line.{words, behind, all_numbers, leading, asked, most_bytes, read_line, numbers_of}
use Rattle.script_line.specs.Count.{count_of}
use Rattle.script_line.proofs.Laws.Cut.{long_bad, long_numbers}

module _ (line : Text) (short : length line ≤ most_bytes) where
  pub short_numbers : numbers_of line ≡ leading (behind (words line))
  unfolding numbers_of
  short_numbers = rw (le-leb (length line) most_bytes short, numbers_of)

  pub short_bad : None ≡ count_of (behind (words line)) → read_line line ≡ Bad
  unfolding read_line count_of
  short_bad h = go (all_numbers (behind (words line))) refl
    where
      go : (t : Bool) → all_numbers (behind (words line)) ≡ t → read_line line ≡ Bad
      go true e =
          let f : count_of (behind (words line)) ≡ Some (length (behind (words line))) = rw (e, count_of) in
          absurd (let z : ◌≡◌ {A = ℕ} 0 1 = cc in omega arith)
      go false e = rw (le-leb (length line) most_bytes short, e, read_line)

  pub short_asked : (count : ℕ) → Some count ≡ count_of (behind (words line)) → read_line line ≡ asked (first_word line) count
  unfolding read_line count_of
  short_asked count h = go (all_numbers (behind (words line))) refl
    where
      go : (t : Bool) → all_numbers (behind (words line)) ≡ t → read_line line ≡ asked (first_word line) count
      go true e =
          let f : count_of (behind (words line)) ≡ Some (length (behind (words line))) = rw (e, count_of) in
          let l : count ≡ length (behind (words line)) = cc in
          rw (le-leb (length line) most_bytes short, e, l, read_line)
      go false e =
          let f : count_of (behind (words line)) ≡ None = rw (e, count_of) in
          absurd (let z : ◌≡◌ {A = ℕ} 0 1 = cc in omega arith)

pub ruleset whole = (long_bad, long_numbers, short_bad, short_asked, short_numbers, put_none)
