-- What is still to be written, before and after a part of a run.
use Prim.Native.Nat.{ℕ, suc, ◌<◌}
use Rattle.std.specs.Prelude.{Option, None, Some, IfSome}
use mathlib.Core.Path.{◌≡◌, refl}
use mathlib.Core.Bool.{true, false}
use mathlib.Core.List.{List, [], ◌∷◌, ◌++◌, append_assoc}
use native.Mathlib.Omega.{arith}
use lib.ListN.{take}
use Rattle.text_decimal.specs.Decimal.{Text}
use Rattle.text_decimal.specs.Word.{line_feed}
use Rattle.store.specs.Layout.{Store}
use Rattle.text_lines.specs.Lines.{lines_from, ahead, feed_ahead, most_kept}
use Rattle.text_lines.proofs.Laws.{lines_fed, lines_unfed, beyond}
use Rattle.script_tick.specs.Tick.{tick_out, tick_store, rest_store, rest_out as tick_rest}
use Rattle.script_play.specs.declared.Phase.{Phase}
use Rattle.script_play.specs.declared.Phase.TheVariants.{Over}
use Rattle.script_play.specs.Play.{Step, played, played_links, ended}
use Rattle.script_run.specs.Listing.{counted, lines_out, rest_out}
use Rattle.script_run.proofs.Cut.{before_cut, line_cut}

-- the lines of a text that begins with a line feed
fed_lines : (before rest : Text) → lines_from before (line_feed ∷ rest) ≡ before ∷ lines_from [] rest
unfolding lines_from
fed_lines [] rest = refl
fed_lines (b ∷ before) rest = refl

module _ (phase : Phase) (links : List ℕ) (lines : ℕ) where
  -- a piece of a tick
  pub tick_rest_lem : (n : ℕ) (left : Option ℕ) (w later : Store) (part before rest : Text)
      → tick_out w n ≡ part ++ tick_rest left later → tick_store w n ≡ rest_store left later
      → rest_out phase (Some n) w links lines before rest ≡ part ++ rest_out phase left later links lines before rest
  unfolding rest_out
  tick_rest_lem n left w later part before rest e f = rw (e, f, append_assoc)

  -- a line whose line feed has come
  module _ (w : Store) (text rest : Text) where
    abbrev step : Step
    step = played phase w links text (counted lines)

    pub line_rest : rest_out phase None w links lines text (line_feed ∷ rest)
        ≡ step.out ++ rest_out step.phase step.next step.store (played_links phase links text) (counted lines) [] rest
    unfolding rest_out lines_out
    line_rest = rw (fed_lines text rest)

  module _ (w : Store) (before chunk more : Text) where
    -- a chunk with no line feed
    pub unfed_rest : feed_ahead chunk ≡ false
        → rest_out phase None w links lines before (chunk ++ more)
        ≡ rest_out phase None w links lines (take most_kept (before ++ ahead chunk)) more
    unfolding rest_out
    unfed_rest h = rw (lines_unfed before chunk more h) (before_cut phase w links lines (before ++ ahead chunk) more)

    -- and with one
    pub fed_rest : feed_ahead chunk ≡ true
        → rest_out phase None w links lines before (chunk ++ more)
        ≡ rest_out phase None w links lines (take most_kept (before ++ ahead chunk)) (line_feed ∷ (beyond chunk ++ more))
    unfolding rest_out
    fed_rest h =
        rw (lines_fed before chunk more h, fed_lines (take most_kept (before ++ ahead chunk)) (beyond chunk ++ more))
        (line_cut phase w links lines (before ++ ahead chunk) (lines_from [] (beyond chunk ++ more)))

-- A run that is over writes nothing, whatever comes.
module _ (w : Store) (links : List ℕ) where
  over_lines : (lines : ℕ) (texts : List Text) → lines_out Over w links lines texts ≡ []
  unfolding lines_out played played_links ended
  over_lines lines [] = refl
  over_lines lines (text ∷ texts) = over_lines (counted lines) texts

  pub over_rest : (lines : ℕ) (before rest : Text) → rest_out Over None w links lines before rest ≡ []
  unfolding rest_out
  over_rest lines before rest = over_lines lines (lines_from before rest)

-- how many pieces the slots that come next take at most, and one more
abbrev pub pending : (next : Option ℕ) → ℕ
pending None = 0
pending (Some left) = suc left

pub pending_less : (next left : Option ℕ) (n : ℕ) → next ≡ Some n → IfSome left (λ m. m < n) → pending left < pending next
pending_less next None n e h = rw e (omega arith)
pending_less next (Some m) n e h = rw e (omega arith)
