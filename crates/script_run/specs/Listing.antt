-- The listing of a script, whole: document 01, "The program's listing".
use Rattle.std.specs.Prelude.{ℕ, suc, min, Option, List, [], ◌∷◌, ◌++◌, replicate}
use Rattle.text_decimal.specs.Decimal.{Text}
use Rattle.store.specs.Layout.{Store, store_length}
use Rattle.text_lines.specs.Lines.{lines_from, lines_of}
use Rattle.script_tick.specs.Tick.{rest_out as next_out, rest_store as next_store}
use Rattle.script_play.specs.declared.Phase.{Phase}
use Rattle.script_play.specs.declared.Phase.TheVariants.{Before}
use Rattle.script_play.specs.Play.{links_length, played, played_links, ended}

-- lines are counted from 1, in 64 bits
abbrev pub counted : (lines : ℕ) → ℕ
counted lines = min (suc lines) 18_446_744_073_709_551_615

-- What is written from here on: `lines` have been played, and these are to come. After a `tick` its slots come before the next
-- line: what they write, and the store after them.
unfoldable pub lines_out : Phase → Store → (links : List ℕ) → (lines : ℕ) → List Text → Text
lines_out phase w links lines [] = (ended phase w links).out
lines_out phase w links lines (text ∷ rest) =
    let s = played phase w links text (counted lines) in
    s.out ++ (next_out s.next s.store
    ++ lines_out s.phase (next_store s.next s.store) (played_links phase links text) (counted lines) rest)

-- the listing of a script
abbrev pub listing : (script : Text) → Text
listing script = lines_out (Before 0) (replicate store_length 0) (replicate links_length 0) 0 (lines_of script)

-- In the midst of a script: what is written from here on, where `before` has come of a line, and `rest` is still to come.
unfoldable pub rest_out : Phase → (next : Option ℕ) → Store → (links : List ℕ) → (lines : ℕ) → (before rest : Text) → Text
rest_out phase next w links lines before rest =
    next_out next w ++ lines_out phase (next_store next w) links lines (lines_from before rest)
