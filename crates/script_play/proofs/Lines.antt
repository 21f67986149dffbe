-- The first line that is no `link`, after which the network stands: the step of set-up, and then that of the line.
use Prim.Native.Nat.{ℕ, ◌+◌, ◌≤◌}
use mathlib.Core.Path.{◌≡◌, sym, ap, ◌∙◌}
use mathlib.Core.Bool.{Bool, false}
use mathlib.Core.List.{List, ◌++◌}
use native.Mathlib.Omega.{arith}
use lib.ListN.{length, length-append}
use Rattle.text_decimal.specs.Decimal.{Text}
use Rattle.text_decimal.specs.Put.{put_at}
use Rattle.text_decimal.proofs.Laws.Put.{put_more}
use Rattle.store.specs.Layout.{Store}
use Rattle.script_line.specs.declared.Line.{Line}
use Rattle.script_line.specs.Line.{read_line, numbers_of, is_link}
use Rattle.script_answer.proofs.Laws.{asked_length}
use Rattle.script_play.specs.declared.Phase.{Phase}
use Rattle.script_play.specs.declared.Phase.TheVariants.{Before, Running}
use Rattle.script_play.specs.declared.Played.{Played}
use Rattle.script_play.specs.Play.{Step, answered, started, followed, first_on, played}
use Rattle.script_play.specs.At.{played_at}
use Rattle.script_play.proofs.Front.{answered_front, asks_fit}
use Rattle.script_play.proofs.Lengths.{started_length}

module _ (w links : List ℕ) (text : Text) (count at n : ℕ) (phase : Phase) (e : phase ≡ Before n) (link : Bool)
    (l : link ≡ is_link text) (no : link ≡ false) (asked : Line) (a : asked ≡ read_line text) (ns all : List ℕ)
    (b : ns ≡ put_at all 0 (numbers_of text)) (r : Played) (h : r ≡ played_at at (started w links n)) (p : r.phase ≡ Running)
    (store : Store) (k : store ≡ (started w links n).store) where
  abbrev s : Step
  s = started w links n

  abbrev t : Step
  t = answered s.store (read_line text) (numbers_of text) count

  stands : s.phase ≡ Running
  stands = sym (ap (λ (x : Played). x.phase) h) ∙ p

  at_first : played phase w links text count ≡ followed s t
  unfolding played
  at_first = rw (e, sym l ∙ no, played) (ap (λ (x : Phase). first_on x s t) stands)

  as_read : answered store asked ns count ≡ t
  as_read = rw (k, a, b) (answered_front all (numbers_of text) s.store (read_line text) count (asks_fit text))

  sum : r.at + length t.out ≡ at + length (s.out ++ t.out)
  sum = simp (h, length-append) (omega arith)

  pub first_value : (q : Played) → q ≡ played_at r.at (answered store asked ns count)
      → q ≡ played_at at (played phase w links text count)
  first_value q f =
      rw (at_first)
      (f ∙ (ap (played_at r.at) as_read ∙ ap (λ (m : ℕ). record { phase = t.phase; next = t.next; at = m }) sum))

  pub first_out : (out₀ out then : List ℕ) → at + 583 ≤ length out₀ → out ≡ put_at out₀ at s.out
      → then ≡ put_at out r.at (answered store asked ns count).out → then ≡ put_at out₀ at (played phase w links text count).out
  first_out out₀ out then long m f =
      let few = asked_length s.store (read_line text) (numbers_of text) count (asks_fit text) in
      rw (at_first)
      (f ∙ (ap (λ (x : Step). put_at out r.at x.out) as_read
      ∙ rw (m, h) (put_more out₀ at s.out t.out (omega (arith, few, started_length w links n)))))
