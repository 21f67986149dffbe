-- The lines of a script, whether it comes at once or in chunks.
use Prim.Native.Nat.{ℕ, suc, ◌+◌, ◌-◌, ◌≤◌, ◌<◌, min}
use mathlib.Core.Path.{◌≡◌, refl, sym, ap, ◌∙◌}
use mathlib.Core.Bool.{Bool, true, false, false≢true, true≢false}
use mathlib.Core.List.{[], ◌∷◌, ◌++◌, append_assoc, append-nil}
use native.Mathlib.Omega.{arith}
use lib.Dec.{eqb}
use lib.ListN.{length, take, drop, length-take}
use lib.Seq.{length-take-le, take-append-add}
use Rattle.text_decimal.specs.Decimal.{Text}
use Rattle.text_decimal.specs.Word.{line_feed}
use Rattle.text_decimal.specs.Put.{put_at}
use Rattle.text_decimal.proofs.Laws.Put.{take_put_end}
use Rattle.text_lines.specs.Lines.{lines_from, ahead, feed_ahead, feed_bytes, most_kept}
use Rattle.text_lines.specs.Gathered.{fitting}

-- one byte ahead: a line feed, or another
pub ahead_feed : (b : ℕ) (rest : Text) → eqb b line_feed ≡ true → (ahead (b ∷ rest) ≡ []) × (feed_ahead (b ∷ rest) ≡ true)
unfolding ahead feed_ahead
ahead_feed b rest h = (rw (h, ahead), rw (h, feed_ahead))

pub ahead_other : (b : ℕ) (rest : Text) → eqb b line_feed ≡ false
    → (ahead (b ∷ rest) ≡ b ∷ ahead rest) × (feed_ahead (b ∷ rest) ≡ feed_ahead rest)
unfolding ahead feed_ahead
ahead_other b rest h = (rw (h, ahead), rw (h, feed_ahead))

pub ahead_none : (ahead [] ≡ []) × (feed_ahead [] ≡ false)
unfolding ahead feed_ahead
ahead_none = (refl, refl)

-- one byte more: a line feed, or another
line_ends : (before : Text) (b : ℕ) (rest : Text) → eqb b line_feed ≡ true
    → lines_from before (b ∷ rest) ≡ before ∷ lines_from [] rest
unfolding lines_from
line_ends [] b rest e = rw (e, lines_from)
line_ends (a ∷ before) b rest e = rw (e, lines_from)

line_goes_on : (before : Text) (b : ℕ) (rest : Text) → eqb b line_feed ≡ false
    → lines_from before (b ∷ rest) ≡ lines_from (before ++ (b ∷ [])) rest
unfolding lines_from
line_goes_on [] b rest e = rw (e, lines_from)
line_goes_on (a ∷ before) b rest e = rw (e, lines_from)

-- what comes after the line feed that is ahead
abbrev pub beyond : Text → Text
beyond chunk = drop (suc (length (ahead chunk))) chunk

-- A chunk with a line feed ends the line; `more` is what comes after the chunk.
abbrev Fed : (before chunk more : Text) → Type 0
Fed before chunk more = lines_from before (chunk ++ more) ≡ (before ++ ahead chunk) ∷ lines_from [] (beyond chunk ++ more)

fed_more : (before : Text) (b : ℕ) (chunk more : Text) (t : Bool) → eqb b line_feed ≡ t
    → (t ≡ false → Fed (before ++ (b ∷ [])) chunk more) → Fed before (b ∷ chunk) more
fed_more before b chunk more true e h =
    rw (line_ends before b (chunk ++ more) e, (ahead_feed b chunk e).0, append-nil)
fed_more before b chunk more false e h =
    rw (line_goes_on before b (chunk ++ more) e, (ahead_other b chunk e).0) (h refl ∙ rw append_assoc)

pub lines_fed : (before chunk more : Text) → feed_ahead chunk ≡ true → Fed before chunk more
lines_fed before [] more h = absurd (false≢true (sym ahead_none.1 ∙ h))
lines_fed before (b ∷ chunk) more h =
    fed_more before b chunk more (eqb b line_feed) refl
    (λ e. lines_fed (before ++ (b ∷ [])) chunk more (sym (ahead_other b chunk e).1 ∙ h))

-- A chunk with none is a part of the line.
abbrev Unfed : (before chunk more : Text) → Type 0
Unfed before chunk more = lines_from before (chunk ++ more) ≡ lines_from (before ++ ahead chunk) more

unfed_more : (before : Text) (b : ℕ) (chunk more : Text) (t : Bool) → eqb b line_feed ≡ t → feed_ahead (b ∷ chunk) ≡ false
    → (t ≡ false → Unfed (before ++ (b ∷ [])) chunk more) → Unfed before (b ∷ chunk) more
unfed_more before b chunk more true e f h = absurd (true≢false (sym (ahead_feed b chunk e).1 ∙ f))
unfed_more before b chunk more false e f h =
    rw (line_goes_on before b (chunk ++ more) e, (ahead_other b chunk e).0) (h refl ∙ rw append_assoc)

pub lines_unfed : (before chunk more : Text) → feed_ahead chunk ≡ false → Unfed before chunk more
lines_unfed before [] more h = rw (ahead_none.0, append-nil)
lines_unfed before (b ∷ chunk) more h =
    unfed_more before b chunk more (eqb b line_feed) refl h
    (λ e. lines_unfed (before ++ (b ∷ [])) chunk more (sym (ahead_other b chunk e).1 ∙ h))

-- then all of it is ahead
pub all_ahead : (chunk : Text) → feed_ahead chunk ≡ false → ahead chunk ≡ chunk
all_ahead [] h = ahead_none.0
all_ahead (b ∷ chunk) h = go (eqb b line_feed) refl (all_ahead chunk)
  where
    go : (t : Bool) → eqb b line_feed ≡ t → (feed_ahead chunk ≡ false → ahead chunk ≡ chunk) → ahead (b ∷ chunk) ≡ b ∷ chunk
    go true e k = absurd (true≢false (sym (ahead_feed b chunk e).1 ∙ h))
    go false e k = rw ((ahead_other b chunk e).0, k (sym (ahead_other b chunk e).1 ∙ h))

-- A last line that lacks its line feed may be given one.
pub last_line : (b : ℕ) (before : Text) → lines_from (b ∷ before) [] ≡ lines_from (b ∷ before) (line_feed ∷ [])
unfolding lines_from
last_line b before = refl

pub no_line : lines_from [] [] ≡ []
unfolding lines_from
no_line = refl

-- What is ahead, with its line feed, is no more than the chunk, and something where the chunk is.
pub ahead_within : (chunk : Text) → length (ahead chunk) + feed_bytes (feed_ahead chunk) ≤ length chunk
ahead_within [] = rw (ahead_none.0, ahead_none.1) (omega arith)
ahead_within (b ∷ chunk) = go (eqb b line_feed) refl (ahead_within chunk)
  where
    go : (t : Bool) → eqb b line_feed ≡ t → length (ahead chunk) + feed_bytes (feed_ahead chunk) ≤ length chunk
        → length (ahead (b ∷ chunk)) + feed_bytes (feed_ahead (b ∷ chunk)) ≤ suc (length chunk)
    go true e k = rw ((ahead_feed b chunk e).0, (ahead_feed b chunk e).1) (omega arith)
    go false e k = rw ((ahead_other b chunk e).0, (ahead_other b chunk e).1) (omega (arith, k))

pub ahead_some : (chunk : Text) → 0 < length chunk → 0 < length (ahead chunk) + feed_bytes (feed_ahead chunk)
ahead_some [] h = absurd (omega arith)
ahead_some (b ∷ chunk) h = go (eqb b line_feed) refl
  where
    go : (t : Bool) → eqb b line_feed ≡ t → 0 < length (ahead (b ∷ chunk)) + feed_bytes (feed_ahead (b ∷ chunk))
    go true e = rw ((ahead_feed b chunk e).0, (ahead_feed b chunk e).1) (omega arith)
    go false e = rw ((ahead_other b chunk e).0, (ahead_other b chunk e).1) (omega arith)

-- The bytes kept of a line are the first 256 of those that came before and those that are gathered.
pub gathered_line : (line : Text) (before : ℕ) (text : Text) (n : ℕ) (full : Text) → before ≤ most_kept → length line ≡ most_kept
    → n ≡ min most_kept (before + length text) → full ≡ put_at line before (fitting before text)
    → take n full ≡ take most_kept (take before line ++ text)
gathered_line line before text n full h w i j =
    let l : length (fitting before text) ≡ min (most_kept - before) (length text) = length-take (most_kept - before) text in
    let e : n ≡ before + length (fitting before text) = omega (arith, i, l) in
    let a : length (take before line) ≡ before = length-take-le before line (omega (arith, w)) in
    let f : most_kept ≡ length (take before line) + (most_kept - before) = omega (arith, a) in
    rw (e, j, take_put_end line before (fitting before text) (omega (arith, w)))
    (sym (ap (λ m. take m (take before line ++ text)) f ∙ take-append-add (take before line) text (most_kept - before)))
