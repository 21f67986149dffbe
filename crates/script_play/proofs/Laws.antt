-- What a line, and the end of the script, write is short, and fits into the buffer.
use Prim.Native.Nat.{ℕ, ◌+◌, ◌≤◌}
use mathlib.Core.Path.{◌≡◌}
use mathlib.Core.Bool.{Bool, true, false}
use mathlib.Core.List.{List}
use native.Mathlib.Omega.{arith}
use lib.ListN.{length, length-append}
use Rattle.text_decimal.specs.Decimal.{Text}
use Rattle.store.specs.Layout.{Store}
use Rattle.script_line.specs.declared.Line.{Line as Asked}
use Rattle.script_line.specs.declared.Line.TheVariants.{Bad, Link, Open, Offer, Tick}
use Rattle.script_line.specs.Line.{read_line, numbers_of, is_link}
use Rattle.script_listing.specs.Buffer.{buffer_length, last_for_slot}
use Rattle.script_answer.proofs.Laws.{bad_length, asked_length}
use Rattle.script_play.specs.declared.Phase.{Phase}
use Rattle.script_play.specs.declared.Phase.TheVariants.{Before, Running, Over}
use Rattle.script_play.specs.declared.Played.{Played}
use Rattle.script_play.specs.At.{played_at}
use Rattle.script_play.specs.Play.{Step, answered, started, first_on, first, link_heard, played, ended}
use Rattle.script_play.proofs.Front.{asks_fit}
use Rattle.script_play.proofs.Lengths.{started_length}

abbrev Short : Step → Type 0
Short s = length s.out ≤ 583

answered_short : (w : Store) (text : Text) (count : ℕ) → length (answered w (read_line text) (numbers_of text) count).out ≤ 533
answered_short w text count = asked_length w (read_line text) (numbers_of text) count (asks_fit text)

heard_short : (w : Store) (n : ℕ) (asked : Asked) (count : ℕ) → Short (link_heard w n asked count)
heard_short w n Link count = omega arith
heard_short w n Bad count = omega (arith, bad_length count)
heard_short w n (Open hops) count = omega (arith, bad_length count)
heard_short w n Offer count = omega (arith, bad_length count)
heard_short w n Tick count = omega (arith, bad_length count)

first_short : (phase : Phase) (before after : Step) → length before.out ≤ 50 → length after.out ≤ 533
    → Short (first_on phase before after)
first_short Running before after h k = simp length-append (omega (arith, h, k))
first_short Over before after h k = omega (arith, h)
first_short (Before n) before after h k = omega (arith, h)

before_short : (n : ℕ) (w : Store) (links : List ℕ) (text : Text) (count : ℕ) (link : Bool)
    → Short (elim link [
      | true ↦ link_heard w n (read_line text) count
      | false ↦ first (started w links n) (read_line text) (numbers_of text) count
    ])
before_short n w links text count true = heard_short w n (read_line text) count
before_short n w links text count false =
    first_short (started w links n).phase (started w links n) _ (started_length w links n)
    (answered_short (started w links n).store text count)

played_length : (phase : Phase) (w : Store) (links : List ℕ) (text : Text) (count : ℕ) → Short (played phase w links text count)
unfolding played
played_length Over w links text count = omega arith
played_length Running w links text count = omega (arith, answered_short w text count)
played_length (Before n) w links text count = before_short n w links text count (is_link text)

ended_length : (phase : Phase) (w : Store) (links : List ℕ) → Short (ended phase w links)
unfolding ended
ended_length (Before n) w links = omega (arith, started_length w links n)
ended_length Running w links = omega arith
ended_length Over w links = omega arith

-- and fits into the buffer
pub ended_fits : (phase : Phase) (w : Store) (links : List ℕ) (at r : ℕ) → at ≤ last_for_slot
    → r ≡ at + length (ended phase w links).out → r ≤ buffer_length
ended_fits phase w links at r h e = omega (arith, e, ended_length phase w links)

pub played_fits : (phase : Phase) (w : Store) (links : List ℕ) (text : Text) (count at : ℕ) (r : Played) → at ≤ last_for_slot
    → r ≡ played_at at (played phase w links text count) → r.at ≤ buffer_length
played_fits phase w links text count at r h p = rw p (omega (arith, played_length phase w links text count))
