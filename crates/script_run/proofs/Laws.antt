-- Where a run begins and ends, and that what its steps write, one after the other, is the listing.
use Prim.Native.Nat.{ℕ, ◌<◌}
use Rattle.std.specs.Prelude.{None}
use mathlib.Core.Path.{◌≡◌, refl, sym, ap, ◌∙◌}
use mathlib.Core.Bool.{Bool, true, false≢true}
use mathlib.Core.List.{List, [], ◌∷◌, ◌++◌, append_assoc, append-nil}
use native.Mathlib.Omega.{arith}
use lib.ListN.{length, drop, length-append}
use Rattle.text_decimal.specs.Decimal.{Text}
use Rattle.text_decimal.specs.Word.{line_feed}
use Rattle.store.specs.Layout.{Store}
use Rattle.text_lines.proofs.Laws.{last_line, no_line}
use Rattle.script_play.specs.declared.Phase.{Phase}
use Rattle.script_play.specs.Play.{ended as at_end}
use Rattle.script_run.specs.declared.Wants.{Wants}
use Rattle.script_run.specs.declared.Wants.TheVariants.{Room, Chunk, Nothing}
use Rattle.script_run.specs.Listing.{lines_out, listing, rest_out}
use Rattle.script_run.specs.Run.Ran.{ended, cut, room, read}
use Rattle.script_run.specs.Run.{State, rest_of, coming, Goes, start_state, Ran, script_of, Comes}

pub rest_start : (script : Text) → rest_of start_state script ≡ listing script
unfolding rest_out
rest_start script = refl

module _ (phase : Phase) (w : Store) (links : List ℕ) (lines : ℕ) where
  -- a last line that lacks its line feed may be given one
  pub rest_last : (before : Text) → 0 < length before
      → rest_out phase None w links lines before [] ≡ rest_out phase None w links lines before (line_feed ∷ [])
  unfolding rest_out
  rest_last [] h = absurd (omega arith)
  rest_last (b ∷ before) h = rw (last_line b before)

  pub rest_end : rest_out phase None w links lines [] [] ≡ (at_end phase w links).out
  unfolding rest_out lines_out
  rest_end = rw no_line

-- What has been written is the front of what is to be written, and all of it where the run is over.
pub record Front (over : Bool) (all out : Text) : Type 0 where
  pub rest : Text
  pub same : all ≡ out ++ rest
  pub none : over ≡ true → rest ≡ []

more_front : (over : Bool) (all next written out : Text) → all ≡ written ++ next → Front over next out
    → Front over all (written ++ out)
more_front over all next written out e f = record {
  rest = f.rest;
  same = e ∙ rw f.same (sym (append_assoc written out f.rest));
  none = f.none;
}

steps_front : (over : Bool) (wants : Wants) (s : State) (chunk : Text) (chunks : List Text) (out more : Text)
    → Ran over wants s chunk chunks out
    → (wants ≡ Chunk → s.run.from ≡ 0) → (wants ≡ Nothing → (rest : Text) → rest_of s rest ≡ [])
    → (wants ≡ Room → chunk ≡ [] → script_of chunks more ≡ []) → Comes chunks more
    → Front over (rest_of s (coming wants s chunk (script_of chunks more))) out
steps_front over wants s chunk chunks out more (ended s₀ chunk₀) h n f k = record {
  rest = [];
  same = n refl more;
  none = λ e. refl;
}
steps_front over wants s chunk chunks out more (cut s₀ chunk₀) h n f k = record {
  rest = rest_of s₀ more;
  same = refl;
  none = λ e. absurd (false≢true e);
}
steps_front over wants s chunk chunks out more (room over₀ s₀ t later chunk₀ chunks₀ written rest g r) h n f k =
    more_front over₀ _ _ written rest (g.same (script_of chunks₀ more) (f refl))
    (steps_front over₀ later t chunk₀ chunks₀ rest more r (λ e. (g.used e).1) g.over (λ e. f refl) k)
steps_front over wants s chunk chunks out more (read over₀ s₀ t later chunk₀ next chunks₀ written rest g r) h n f k =
    more_front over₀ _ _ written rest (rw (h refl) at (g.same (script_of chunks₀ more) k.0))
    (steps_front over₀ later t next chunks₀ rest more r (λ e. (g.used e).1) g.over (λ e. k.0) k.1)

-- What the steps of a run write, one after the other, is the listing of the script, in whatever chunks it comes; and where a
-- chunk cannot be read it is the front of the listing, whatever would have come.
module _ (chunks : List Text) (out : Text) where
  pub ran_front : (over : Bool) (more : Text) → Comes chunks more → Ran over Chunk start_state [] chunks out
      → Front over (listing (script_of chunks more)) out
  ran_front over more k r =
      rw (rest_start (script_of chunks more)) at
      (steps_front over Chunk start_state [] chunks out more r (λ e. refl)
      (λ e. absurd cc) (λ e. absurd cc) k)

  pub ran_listing : Comes chunks [] → Ran true Chunk start_state [] chunks out → listing (script_of chunks []) ≡ out
  ran_listing k r =
      let f = ran_front true [] k r in
      f.same ∙ rw (f.none refl) (append-nil out)

-- A step that wants room has written something, so that less is to be written after it: steps with one chunk come to an end.
pub room_less : (chunk : Text) (before after : State) (written : Text) (wants : Wants) → Goes chunk before written after wants
    → wants ≡ Room
    → length (rest_of after (drop after.run.from chunk)) < length (rest_of before (drop before.run.from chunk))
room_less chunk before after written wants g e =
    let same = rw (e, append-nil, append-nil) at (g.same [] (λ h. refl)) in
    let whole = simp length-append at (ap length same) in
    omega (arith, whole, g.full e)
