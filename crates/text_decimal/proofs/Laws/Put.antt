-- A text put into a list, and a part of one: laws about plain lists.
use Prim.Native.Nat.{ℕ, suc, ◌+◌, ◌-◌, ◌≤◌, ◌<◌}
use mathlib.Core.Path.{◌≡◌, ◌∙◌}
use mathlib.Core.List.{List, [], ◌∷◌, ◌++◌, append_assoc}
use native.Mathlib.Nat.{add-zero, add_assoc}
use native.Mathlib.Numerals.{add-one}
use native.Mathlib.Omega.{arith}
use lib.ListN.{length, take, drop, set, length-append, length-take, length-drop, take-append-drop}
use lib.Seq.{length-take-le, take-suc, take-append_seam, set_split, set_at, take_at, drop_at, drop-drop, take-add, take-suc-set}
use lib.Seq.{drop-set-lt}
use borrow.Rule.Slice.PartMut.{put_mid}
use Rattle.text_decimal.specs.Put.{put_at, part_of}

module _ (all : List ℕ) (at : ℕ) where
  pub put_none : put_at all at [] ≡ all
  unfolding put_at
  put_none = rw (add-zero at, take-append-drop)

  pub put_one : (x : ℕ) → at < length all → set all at x ≡ put_at all at (x ∷ [])
  unfolding put_at
  put_one x h = set_split all at x h ∙ rw (add-one at)

  -- one more in front
  pub put_front : (x : ℕ) (part : List ℕ) → at < length all → set (put_at all (suc at) part) at x ≡ put_at all at (x ∷ part)
  unfolding put_at
  put_front x part h =
      let e : suc at + length part ≡ at + suc (length part) = omega arith in
      rw (take-suc all at 0 h, append_assoc, e) (set_at (take at all) _ _ x at (length-take-le at all (omega arith)))

  -- the first of what is put, and then the others
  pub put_next : (x : ℕ) (part : List ℕ) → at < length all → put_at all at (x ∷ part) ≡ put_at (set all at x) (at + 1) part
  unfolding put_at
  put_next x part h =
      let e : suc at + length part ≡ at + suc (length part) = omega arith in
      rw (add-one at, take-suc-set all at x h, drop-set-lt (suc at + length part) all at x (omega arith), append_assoc, e)

  module _ (part : List ℕ) where
    pub length_put : at + length part ≤ length all → length (put_at all at part) ≡ length all
    unfolding put_at
    length_put h = simp (length-append, length-take, length-drop) (omega arith)

    pub take_put : at ≤ length all → take at (put_at all at part) ≡ take at all
    unfolding put_at
    take_put h = take_at (take at all) _ at (length-take-le at all h)

    head_length : at ≤ length all → length (take at all ++ part) ≡ at + length part
    head_length h = simp (length-append, length-take-le at all h)

    -- up to the end of what was put, and from there on
    pub take_put_end : at ≤ length all → take (at + length part) (put_at all at part) ≡ take at all ++ part
    unfolding put_at
    take_put_end h = rw (← append_assoc) (take_at (take at all ++ part) _ _ (head_length h))

    pub drop_put_end : at ≤ length all → drop (at + length part) (put_at all at part) ≡ drop (at + length part) all
    unfolding put_at
    drop_put_end h = rw (← append_assoc) (drop_at (take at all ++ part) _ _ (head_length h))

    pub part_put : at + length part ≤ length all → part_of (put_at all at part) at (at + length part) ≡ part
    unfolding put_at part_of
    part_put h =
        let e : at + length part - at ≡ length part = omega arith in
        rw (e, drop_at (take at all) (part ++ drop (at + length part) all) at (length-take-le at all (omega arith)))
        (take-append_seam part _)

-- what is put behind what was put
pub put_more : (all : List ℕ) (at : ℕ) (a b : List ℕ) → at + length a + length b ≤ length all
    → put_at (put_at all at a) (at + length a) b ≡ put_at all at (a ++ b)
unfolding put_at
put_more all at a b h =
    rw (take_put_end all at a (omega arith))
    (rw (← drop-drop (length b) (at + length a) (put_at all at a), drop_put_end all at a (omega arith))
    (simp (append_assoc, drop-drop, length-append, add_assoc)))

pub part_more : (all : List ℕ) (a b c : ℕ) → a ≤ b → b ≤ c → part_of all a b ++ part_of all b c ≡ part_of all a c
unfolding part_of
part_more all a b c h k =
    let e : c - a ≡ (b - a) + (c - b) = omega arith in
    let f : a + (b - a) ≡ b = omega arith in
    rw (e, take-add (b - a) (c - b) (drop a all), drop-drop, f)

-- what a part of a list holds once it is written
pub put_part : (all : List ℕ) (at many : ℕ) (part : List ℕ) → length part ≡ many → put_mid at many all part ≡ put_at all at part
unfolding put_at
put_part all at many part e = rw (drop-drop many at all, e)
