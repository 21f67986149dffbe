-- What is gathered of a text: the bytes in front of its first line feed, as far as there is room for them.
use Prim.Native.Nat.{ℕ, ◌+◌, ◌-◌, ◌≤◌, ◌<◌, min}
use mathlib.Core.Path.{◌≡◌, refl, ap, ◌∙◌}
use mathlib.Core.Bool.{Bool, true, false}
use mathlib.Core.List.{[], ◌∷◌}
use native.Mathlib.Decide.{dec_le}
use native.Mathlib.Omega.{arith}
use borrow.Author.Tests.{lt-ltb, le-ltb}
use borrow.Rule.Slice.PartMut.{put_mid}
use lib.Dec.{eqb}
use lib.ListN.{length, take, length-take}
use lib.Seq.{take_all}
use mir.Val.{bool_byte}
use Rattle.std.specs.List.{position, position_or_len}
use Rattle.std.specs.Prelude.{Option, Some, None}
use Rattle.std.specs.Option.{unwrap_or, is_some}
use Rattle.text_decimal.specs.Decimal.{Text}
use Rattle.text_decimal.specs.Word.{line_feed}
use Rattle.text_decimal.specs.Put.{put_at}
use Rattle.text_decimal.proofs.Laws.Put.{put_part}
use Rattle.text_lines.specs.Lines.{ahead, feed_ahead, feed_bytes, most_kept}
use Rattle.text_lines.specs.Gathered.{gathered, fitting}
use Rattle.text_lines.proofs.Laws.{ahead_feed, ahead_other, ahead_none, ahead_within, all_ahead}

abbrev pub is_feed : ℕ → Bool
is_feed b = eqb b line_feed

-- what is ahead is the front of the text, up to the first line feed
ahead_front : (text : Text) → take (length (ahead text)) text ≡ ahead text
ahead_front [] = rw ahead_none.0
ahead_front (b ∷ rest) = go (eqb b line_feed) refl (ahead_front rest)
  where
    go : (t : Bool) → eqb b line_feed ≡ t → take (length (ahead rest)) rest ≡ ahead rest
        → take (length (ahead (b ∷ rest))) (b ∷ rest) ≡ ahead (b ∷ rest)
    go true e r = rw (ahead_feed b rest e).0
    go false e r = rw (ahead_other b rest e).0 (ap (λ (t : Text). b ∷ t) r)

ahead_place : (text : Text) → length (ahead text) ≡ position_or_len is_feed text
ahead_place [] = rw ahead_none.0
ahead_place (b ∷ rest) = go (eqb b line_feed) refl (ahead_place rest)
  where
    go : (t : Bool) → eqb b line_feed ≡ t → length (ahead rest) ≡ position_or_len is_feed rest
        → length (ahead (b ∷ rest)) ≡ position_or_len is_feed (b ∷ rest)
    go true e r = rw ((ahead_feed b rest e).0, e)
    go false e r = rw ((ahead_other b rest e).0, e) (omega (arith, r))

take_min : (n : ℕ) (text : Text) → take (min (length text) n) text ≡ take n text
take_min n text = go (dec_le n (length text))
  where
    go : Dec (n ≤ length text) → take (min (length text) n) text ≡ take n text
    go (yes h) = let e : min (length text) n ≡ n = omega arith in rw e
    go (no h) =
        let e : min (length text) n ≡ length text = omega arith in
        rw (e, take_all n text (omega arith), take_all (length text) text (omega arith))

-- what `position` finds of it
module _ (text : Text) (feed : Option ℕ) (found : feed ≡ position is_feed text) where
  abbrev Found : Type 0
  Found = (unwrap_or feed (length text) ≡ length (ahead text)) × (is_some feed ≡ feed_ahead text)

  feed_found : Found
  feed_found = go (feed_ahead text) refl
    where
      go : (t : Bool) → feed_ahead text ≡ t → Found
      go true e =
          let l : length (ahead text) < length text = omega (arith, rw e at (ahead_within text)) in
          let f : feed ≡ Some (length (ahead text)) = rw (found, ← ahead_place text, lt-ltb _ _ l) in
          rw (f, e) (refl, refl)
      go false e =
          let l : length text ≡ length (ahead text) = rw (all_ahead text e) in
          let f : feed ≡ None = rw (found, ← ahead_place text, le-ltb (length (ahead text)) (length text) (omega arith)) in
          rw (f, e) (l, refl)

  byte_is : (t : Bool) → bool_byte t ≡ feed_bytes t
  byte_is true = refl
  byte_is false = refl

  -- what the call then says and leaves, `end` and `whole` being what was found
  module _ (line : Text) (before from : ℕ) (room : before ≤ most_kept) (end : ℕ) (whole : Bool)
      (e : end ≡ unwrap_or feed (length text)) (f : whole ≡ is_some feed) where
    cut : take end text ≡ ahead text
    cut = rw (e, feed_found.0) (ahead_front text)

    pub gathered_value : (byte kept : ℕ) → byte ≡ bool_byte whole → kept ≡ min (length (take end text)) (most_kept - before)
        → record { at = from + length (take end text) + byte; length = before + kept; whole = whole } ≡ gathered text from before
    gathered_value byte kept b k =
        let w : whole ≡ feed_ahead text = f ∙ feed_found.1 in
        let n : byte ≡ feed_bytes (feed_ahead text) = b ∙ (byte_is whole ∙ rw w) in
        let m : before + kept ≡ min most_kept (before + length (ahead text)) = omega (arith, k, ap length cut) in
        rw (m, n, w, cut)

    pub line_kept : (kept many : ℕ) (part : Text) → kept ≡ min (length (take end text)) (most_kept - before)
        → many ≡ kept → part ≡ take kept (take end text) → put_mid before many line part ≡ put_at line before (fitting before (ahead text))
    line_kept kept many part k m p =
        let l = length-take (most_kept - before) (ahead text) in
        let q : take kept (take end text) ≡ fitting before (ahead text) = rw (k, cut) (take_min (most_kept - before) (ahead text)) in
        rw (p, q) (put_part line before many (fitting before (ahead text)) (omega (arith, k, ap length cut)))
