-- Of a line no more than its first 256 bytes matter.
use Prim.Native.Nat.{ℕ, ◌≤◌}
use mathlib.Core.Path.{◌≡◌, refl, sym, ◌∙◌}
use mathlib.Core.Bool.{Bool, true, false}
use mathlib.Core.List.{List, [], ◌∷◌, ◌++◌, append-nil}
use native.Mathlib.Decide.{dec_le}
use native.Mathlib.Omega.{arith}
use lib.ListN.{length, take}
use lib.Seq.{take-append-le, take-take, take_all, length-take-le}
use Rattle.text_decimal.specs.Decimal.{Text}
use Rattle.store.specs.Layout.{Store}
use Rattle.text_lines.specs.Lines.{lines_from, ahead, feed_ahead, most_kept}
use Rattle.text_lines.proofs.Laws.{lines_fed, lines_unfed, beyond}
use Rattle.script_line.specs.declared.Line.{Line as Asked}
use Rattle.script_line.specs.Line.{read_line, numbers_of, is_link}
use Rattle.script_line.proofs.Laws.Cut.{cut_read, cut_numbers, cut_link}
use Rattle.script_play.specs.declared.Phase.{Phase}
use Rattle.script_play.specs.declared.Phase.TheVariants.{Before, Running, Over}
use Rattle.script_play.specs.Play.{Step, first, started, link_heard, links_heard, played, played_links}
use Rattle.script_run.specs.Listing.{counted, lines_out}

-- before set-up: what a line does, of what is read of it
module _ (n : ℕ) (w : Store) (links : List ℕ) where
  unfoldable heard : (link : Bool) → Asked → (numbers : List ℕ) → (count : ℕ) → Step
  heard link asked numbers count =
      elim link [ true ↦ link_heard w n asked count | false ↦ first (started w links n) asked numbers count ]

  heard_is : (text : Text) (count : ℕ)
      → played (Before n) w links text count ≡ heard (is_link text) (read_line text) (numbers_of text) count
  unfolding played heard
  heard_is text count = refl

  unfoldable heard_links : (link : Bool) → Asked → (numbers : List ℕ) → List ℕ
  heard_links link asked numbers = elim link [ true ↦ links_heard links n asked numbers | false ↦ links ]

  links_is : (text : Text) → played_links (Before n) links text ≡ heard_links (is_link text) (read_line text) (numbers_of text)
  unfolding played_links heard_links
  links_is text = refl

module _ (w : Store) (links : List ℕ) (text : Text) where
  running_cut : (count : ℕ) → played Running w links (take most_kept text) count ≡ played Running w links text count
  unfolding played
  running_cut count = rw (cut_read text, cut_numbers text)

  over_cut : (count : ℕ) → played Over w links (take most_kept text) count ≡ played Over w links text count
  unfolding played
  over_cut count = refl

  pub played_cut : (phase : Phase) (count : ℕ) → played phase w links (take most_kept text) count ≡ played phase w links text count
  played_cut (Before n) count =
      heard_is n w links (take most_kept text) count
      ∙ rw (cut_link text, cut_read text, cut_numbers text) (sym (heard_is n w links text count))
  played_cut Running count = running_cut count
  played_cut Over count = over_cut count

  pub links_cut : (phase : Phase) → played_links phase links (take most_kept text) ≡ played_links phase links text
  unfolding played_links
  links_cut (Before n) =
      links_is n w links (take most_kept text)
      ∙ rw (cut_link text, cut_read text, cut_numbers text) (sym (links_is n w links text))
  links_cut Running = refl
  links_cut Over = refl

-- texts that begin with the same 256 bytes
abbrev Alike : (a b : Text) → Type 0
Alike a b = take most_kept a ≡ take most_kept b

cut_alike : (a more : Text) → Alike (a ++ more) (take most_kept a ++ more)
cut_alike a more = go (dec_le (length a) most_kept)
  where
    go : Dec (length a ≤ most_kept) → Alike (a ++ more) (take most_kept a ++ more)
    go (yes h) = rw (take_all most_kept a h)
    go (no h) =
        let k : most_kept ≤ length a = omega arith in
        let l : most_kept ≤ length (take most_kept a) = rw (length-take-le most_kept a k) (omega arith) in
        take-append-le most_kept a more k
        ∙ (sym (take-take most_kept most_kept a (omega arith)) ∙ sym (take-append-le most_kept (take most_kept a) more l))

module _ (phase : Phase) (w : Store) (links : List ℕ) (lines : ℕ) where
  abbrev Same : (a b : List Text) → Type 0
  Same a b = lines_out phase w links lines a ≡ lines_out phase w links lines b

  first_cut : (a : Text) (rest : List Text) → Same (take most_kept a ∷ rest) (a ∷ rest)
  unfolding lines_out
  first_cut a rest = rw (played_cut w links a phase (counted lines), links_cut w links a phase)

  first_alike : (a b : Text) (rest : List Text) → Alike a b → Same (a ∷ rest) (b ∷ rest)
  first_alike a b rest e = sym (first_cut a rest) ∙ (rw e (first_cut b rest))

  last_alike : (a b : Text) → Alike a b → Same (lines_from a []) (lines_from b [])
  unfolding lines_from
  last_alike [] [] e = refl
  last_alike [] (y ∷ b) e = absurd (let z : ◌≡◌ {A = ℕ} 0 1 = cc in omega arith)
  last_alike (x ∷ a) [] e = absurd (let z : ◌≡◌ {A = ℕ} 0 1 = cc in omega arith)
  last_alike (x ∷ a) (y ∷ b) e = first_alike (x ∷ a) (y ∷ b) [] e

  -- more after a text that is cut
  before_alike : (a b more : Text) (t : Bool) → feed_ahead more ≡ t → Alike (a ++ ahead more) (b ++ ahead more)
      → Same (lines_from a (more ++ [])) (lines_from b (more ++ []))
  before_alike a b more true h e =
      rw (lines_fed a more [] h, lines_fed b more [] h)
      (first_alike (a ++ ahead more) (b ++ ahead more) (lines_from [] (beyond more ++ [])) e)
  before_alike a b more false h e =
      rw (lines_unfed a more [] h, lines_unfed b more [] h) (last_alike (a ++ ahead more) (b ++ ahead more) e)

  pub before_cut : (before more : Text) → Same (lines_from before more) (lines_from (take most_kept before) more)
  before_cut before more =
      rw (← append-nil more)
      (before_alike before (take most_kept before) more (feed_ahead more) refl (cut_alike before (ahead more)))

  pub line_cut : (text : Text) (rest : List Text) → Same (text ∷ rest) (take most_kept text ∷ rest)
  line_cut text rest = sym (first_cut text rest)
