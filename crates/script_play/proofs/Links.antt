-- The numbers of `link` lines: four of them kept, and the first n links of those that were.
use Prim.Native.Nat.{ℕ, ◌*◌, ◌≤◌, ◌<◌, min}
use mathlib.Core.Path.{◌≡◌, sym, ◌∙◌}
use mathlib.Core.List.{List}
use native.Mathlib.Decide.{dec_le}
use native.Mathlib.Omega.{arith}
use borrow.Author.Tests.{lt-ltb}
use borrow.Rule.Slice.PartMut.{put_mid}
use lib.ListN.{length, take}
use lib.Seq.{drop-drop, take_all, length-take-le}
use Rattle.text_decimal.specs.Put.{put_at}
use Rattle.script_play.specs.Play.{links_length, most_kept, kept}

pub kept_one : (links ns : List ℕ) (n k : ℕ) (four : List ℕ) → n < most_kept → k ≡ 4 → four ≡ take 4 ns → 4 ≤ length ns
    → put_mid (4 * n) k links four ≡ kept links n ns
unfolding put_at
kept_one links ns n k four h e f s = rw (lt-ltb n most_kept h, f, e, length-take-le 4 ns s, drop-drop 4 (4 * n) links, kept)

-- set-up looks at 17 links and no more
pub looked : (links : List ℕ) (n : ℕ) → length links ≡ links_length → take (4 * min n most_kept) links ≡ take (4 * n) links
looked links n l = go (dec_le most_kept n)
  where
    go : Dec (most_kept ≤ n) → take (4 * min n most_kept) links ≡ take (4 * n) links
    go (yes h) = take_all (4 * min n most_kept) links (omega arith) ∙ sym (take_all (4 * n) links (omega arith))
    go (no h) = let s : min n most_kept ≡ n = omega arith in rw s
