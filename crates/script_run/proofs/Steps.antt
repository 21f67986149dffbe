-- What is still to be written out stays the same: the parts of a step, over what the code has in its hands.
use Prim.Native.Nat.{ℕ, zero, suc, ◌+◌, ◌-◌, ◌≤◌, ◌<◌}
use Rattle.std.specs.Prelude.{Option, None, Some}
use mathlib.Core.Path.{◌≡◌, refl, sym, ap, ◌∙◌}
use mathlib.Core.Bool.{true, false}
use mathlib.Core.List.{List, [], ◌∷◌, ◌++◌, append_assoc, append-nil}
use native.Mathlib.Omega.{arith}
use lib.ListN.{length, take, drop, drop_of_length-le, length-drop}
use lib.Seq.{drop-drop, take-add, length-take-le}
use Rattle.text_decimal.specs.Decimal.{Text}
use Rattle.text_decimal.specs.Word.{line_feed}
use Rattle.text_decimal.specs.Put.{put_at, part_of}
use Rattle.text_decimal.proofs.Laws.Put.{take_put_end}
use Rattle.store.specs.Layout.{Store}
use Rattle.text_lines.specs.Lines.{ahead, feed_ahead, feed_bytes, most_kept}
use Rattle.text_lines.specs.declared.Gathered.{Gathered}
use Rattle.text_lines.specs.Gathered.{gathered, fitting}
use Rattle.text_lines.proofs.Laws.{all_ahead, ahead_within, ahead_some, beyond, gathered_line}
use Rattle.script_listing.specs.Buffer.{last_for_slot}
use Rattle.script_tick.specs.Tick.{tick_out, tick_store, rest_store, rest_out as tick_rest}
use Rattle.script_play.specs.declared.Phase.TheVariants.{Over}
use Rattle.script_play.specs.declared.Played.{Played}
use Rattle.script_play.specs.Play.{played, played_links, ended}
use Rattle.script_play.specs.At.{played_at}
use Rattle.script_run.specs.declared.Run.{Run}
use Rattle.script_run.specs.declared.Wants.{Wants}
use Rattle.script_run.specs.declared.Wants.TheVariants.{Room, Chunk, Nothing}
use Rattle.script_run.specs.Listing.{counted, rest_out}
use Rattle.script_run.specs.Run.{owed, State, rest_of, coming, Goes}
use Rattle.script_run.proofs.Laws.{rest_last, rest_end}
use Rattle.script_run.proofs.Rest.{tick_rest_lem, line_rest, unfed_rest, fed_rest, over_rest}

-- a part of a buffer behind what stands before it
take_part : (all : List ℕ) (at end : ℕ) → at ≤ end → take at all ++ part_of all at end ≡ take end all
unfolding part_of
take_part all at end h =
    let e : end ≡ at + (end - at) = omega arith in
    rw (ap (λ n. take n all) e) (sym (take-add at (end - at) all))

-- What is written behind what stood in the buffer goes from what is to be written into the buffer.
put_behind : (out later : List ℕ) (at end : ℕ) (part before after : Text) → take end later ≡ take at out ++ part
    → before ≡ part ++ after → take at out ++ before ≡ take end later ++ after
put_behind out later at end part before after e b = rw (b, e) (sym (append_assoc (take at out) part after))

-- Behind what stands in the buffer.
behind : (at : ℕ) (out : List ℕ) {a b : Text} → a ≡ b → take at out ++ a ≡ take at out ++ b
behind at out e = rw e

-- A piece of a tick of n slots.
pub piece_owed : (run : Run) (n : ℕ) (left : Option ℕ) (w later : Store) (out after : List ℕ) (end : ℕ)
    → run.next ≡ Some n → tick_out w n ≡ part_of after run.at end ++ tick_rest left later
    → tick_store w n ≡ rest_store left later → take run.at after ≡ take run.at out → run.at ≤ end
    → (links text : List ℕ) (rest : Text)
    → owed out run w links text rest
    ≡ take end after ++ rest_out run.phase left later links run.lines (take run.length text) rest
piece_owed run n left w later out after end e t s f h links text rest =
    put_behind out after run.at end (part_of after run.at end) _ _
    (sym (take_part after run.at end h) ∙ rw f)
    (rw e (tick_rest_lem run.phase links run.lines n left w later (part_of after run.at end) _ rest t s))

-- A line whose line feed has come.
pub line_owed : (run : Run) (w later : Store) (links heard text out after : List ℕ) (count : ℕ) (r : Played)
    → run.next ≡ None → run.at ≤ length out → count ≡ counted run.lines
    → r ≡ played_at run.at (played run.phase w links (take run.length text) count)
    → later ≡ (played run.phase w links (take run.length text) count).store
    → heard ≡ played_links run.phase links (take run.length text)
    → after ≡ put_at out run.at (played run.phase w links (take run.length text) count).out
    → (rest : Text)
    → owed out run w links text (line_feed ∷ rest)
    ≡ take r.at after ++ rest_out r.phase r.next later heard count [] rest
line_owed run w later links heard text out after count r n h c p s l b rest =
    put_behind out after run.at r.at (played run.phase w links (take run.length text) count).out _ _
    (rw (p, b) (take_put_end out run.at (played run.phase w links (take run.length text) count).out h))
    (rw (n, p, s, l, c) (line_rest run.phase links run.lines w (take run.length text) rest))

-- What is gathered from where a chunk goes on: the text up to there, with its line feed or without.
module _ (run : Run) (w : Store) (links line full out chunk : List ℕ) (g : Gathered) (none : run.next ≡ None)
    (few : run.length ≤ most_kept) (inside : run.from < length chunk) (size : length line ≡ most_kept)
    (e : g ≡ gathered (drop run.from chunk) run.from run.length)
    (f : full ≡ put_at line run.length (fitting run.length (ahead (drop run.from chunk)))) where
  abbrev text : Text
  text = drop run.from chunk

  abbrev later : Run
  later = record run { length = g.length; from = g.at }

  ends : g.at ≡ run.from + length (ahead text) + feed_bytes (feed_ahead text)
  ends = ap (λ x. x.at) e

  whole : g.whole ≡ feed_ahead text
  whole = ap (λ x. x.whole) e

  kept : take g.length full ≡ take most_kept (take run.length line ++ ahead text)
  kept = gathered_line line run.length (ahead text) g.length full few size (ap (λ x. x.length) e) f

  pub gathered_within : (run.from < g.at) × (g.at ≤ length chunk)
  gathered_within =
      let l : length text ≡ length chunk - run.from = length-drop run.from chunk in
      let s : 0 < length text = omega (arith, l) in
      (omega (arith, ends, ahead_some text s), omega (arith, ends, l, ahead_within text))

  module _ (more : Text) where
    -- no line feed: the bytes are kept
    pub unfed_owed : g.whole ≡ false → owed out run w links line (text ++ more) ≡ owed out later w links full (drop g.at chunk ++ more)
    unfed_owed h =
        let n : feed_ahead text ≡ false = sym whole ∙ h in
        let l : length text ≡ length chunk - run.from = length-drop run.from chunk in
        let a : ahead text ≡ text = all_ahead text n in
        let i : length chunk ≤ g.at = rw (ends, n, a) (omega (arith, l)) in
        behind run.at out
        (rw (none, kept, drop_of_length-le chunk i) (unfed_rest run.phase links run.lines w (take run.length line) text more n))

    -- a line feed: the line is whole
    pub fed_owed : g.whole ≡ true
        → owed out run w links line (text ++ more) ≡ owed out later w links full (line_feed ∷ (drop g.at chunk ++ more))
    fed_owed h =
        let y : feed_ahead text ≡ true = sym whole ∙ h in
        let i : g.at ≡ run.from + suc (length (ahead text)) = ends ∙ rw y (omega arith) in
        let d : drop g.at chunk ≡ beyond text = rw i (sym (drop-drop (suc (length (ahead text))) run.from chunk)) in
        behind run.at out (rw (none, d, kept) (fed_rest run.phase links run.lines w (take run.length line) text more y))

-- The end of the script.
pub last_owed : (out : List ℕ) (run : Run) (w : Store) (links text : List ℕ) → run.next ≡ None → 0 < run.length
    → run.length ≤ length text → owed out run w links text [] ≡ owed out run w links text (line_feed ∷ [])
last_owed out run w links text n h l =
    let k : length (take run.length text) ≡ run.length = length-take-le run.length text l in
    let i : 0 < length (take run.length text) = omega (arith, k) in
    rw n (ap (λ t. take run.at out ++ t) (rest_last run.phase w links run.lines (take run.length text) i))

pub end_owed : (out after : List ℕ) (run : Run) (w : Store) (links text : List ℕ) (end : ℕ) → run.next ≡ None → run.length ≡ 0
    → run.at ≤ length out → end ≡ run.at + length (ended run.phase w links).out
    → after ≡ put_at out run.at (ended run.phase w links).out
    → (later : Store) (kept : List ℕ) (lines : ℕ)
    → owed out run w links text [] ≡ take end after ++ rest_out Over None later kept lines [] []
end_owed out after run w links text end n l h e b later kept lines =
    put_behind out after run.at end (ended run.phase w links).out _ _
    (rw (e, b) (take_put_end out run.at (ended run.phase w links).out h))
    (rw (n, l, over_rest later kept lines [] [])
    (rest_end run.phase w links run.lines ∙ sym (append-nil (ended run.phase w links).out)))

-- The end of the input: a step with an empty chunk.
drop_none : (n : ℕ) → ◌≡◌ {A = List ℕ} (drop n []) []
drop_none zero = refl
drop_none (suc n) = refl

coming_none : (wants : Wants) (s : State) → coming wants s [] [] ≡ []
coming_none Room s = rw (drop_none s.run.from)
coming_none Chunk s = refl
coming_none Nothing s = refl

pub end_goes : (chunk : Text) (before after : State) (written : Text) (wants : Wants) → length chunk ≡ 0
    → rest_of before [] ≡ written ++ rest_of after [] → (wants ≡ Room → last_for_slot < length written) → (wants ≡ Chunk → ⊥)
    → (wants ≡ Nothing → (rest : Text) → rest_of after rest ≡ []) → Goes chunk before written after wants
end_goes [] before after written wants l e f u o = record {
  same = λ more h. rw (h refl, drop_none before.run.from, coming_none wants after) e;
  full = f;
  used = λ h. absurd (u h);
  over = o;
}
end_goes (b ∷ chunk) before after written wants l e f u o = absurd (omega arith)
