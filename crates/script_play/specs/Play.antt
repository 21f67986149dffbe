-- What a line of a script does and writes: document 01, "The program's listing".
use Rattle.std.specs.Prelude.{ℕ, suc, ◌*◌, true, false, Option, None, Some, Result, Ok, Err, List, [], ◌++◌, ltb, take}
use Rattle.text_decimal.specs.Decimal.{Text}
use Rattle.text_decimal.specs.Put.{put_at}
use Rattle.kinds.specs.declared.Refusal.{Refusal}
use Rattle.kinds.specs.Refusals.{number_of, place_of}
use Rattle.store.specs.Layout.{Store, number_at}
use Rattle.setup.specs.SetUp.{set_up_answer, set_up_store}
use Rattle.script_line.specs.declared.Line.{Line as Asked}
use Rattle.script_line.specs.declared.Line.TheVariants.{Bad, Link, Open, Offer, Tick}
use Rattle.script_line.specs.Line.{read_line, numbers_of, is_link}
use Rattle.script_listing.specs.Listing.{links_line, refused_line, bad_line}
use Rattle.script_answer.specs.Answer.{asked_store, asked_out}
use Rattle.script_play.specs.declared.Phase.{Phase}
use Rattle.script_play.specs.declared.Phase.TheVariants.{Before, Running, Over}

-- After a line: the phase, what comes next, the store, and what was written.
pub record Step : Type 0 where
  pub phase : Phase
  pub next : Option ℕ
  pub store : Store
  pub out : Text

-- A line of a running room, the `count`th of the script. The slots of a `tick` come next.
abbrev pub next_of : Asked → (numbers : List ℕ) → Option ℕ
next_of Bad numbers = None
next_of Link numbers = None
next_of (Open hops) numbers = None
next_of Offer numbers = None
next_of Tick numbers = Some (number_at numbers 0)

abbrev pub answered : Store → Asked → (numbers : List ℕ) → (count : ℕ) → Step
answered w asked numbers count = record {
  phase = Running;
  next = next_of asked numbers;
  store = asked_store w asked numbers;
  out = asked_out w asked numbers count;
}

-- Set-up of the first n links that came. "A refused set-up prints `refused` and ends the run."
abbrev pub started_on : Result (Unit {0}) Refusal → Store → (n : ℕ) → Step
started_on (Ok done) w n = record { phase = Running; next = None; store = w; out = links_line n }
started_on (Err refusal) w n =
    record { phase = Over; next = None; store = w; out = refused_line (number_of refusal) (place_of refusal) }

unfoldable pub started : Store → (links : List ℕ) → (n : ℕ) → Step
started w links n = started_on (set_up_answer w (take (4 * n) links)) (set_up_store w (take (4 * n) links)) n

-- The line that set-up came before is then played, if the network stands.
abbrev pub followed : (before after : Step) → Step
followed before after =
    record { phase = after.phase; next = after.next; store = after.store; out = before.out ++ after.out }

abbrev pub first_on : Phase → (before after : Step) → Step
first_on Running before after = followed before after
first_on Over before after = before
first_on (Before n) before after = before

abbrev pub first : (before : Step) → Asked → (numbers : List ℕ) → (count : ℕ) → Step
first before asked numbers count = first_on before.phase before (answered before.store asked numbers count)

-- A `link` line before set-up, after n good ones. One that does not read is bad and counts as no link. More than 16 links are
-- refused whichever they are, so that the first 17 are kept, four numbers each, and no more counted.
abbrev pub most_kept : ℕ
most_kept = 17

abbrev pub links_length : ℕ
links_length = 68

abbrev pub counted : (n : ℕ) → ℕ
counted n = elim (ltb n most_kept) [ true ↦ suc n | false ↦ n ]

abbrev pub kept : (links : List ℕ) → (n : ℕ) → (numbers : List ℕ) → List ℕ
kept links n numbers = elim (ltb n most_kept) [ true ↦ put_at links (4 * n) (take 4 numbers) | false ↦ links ]

abbrev pub bad_link : Store → (n count : ℕ) → Step
bad_link w n count = record { phase = Before n; next = None; store = w; out = bad_line count }

abbrev pub link_heard : Store → (n : ℕ) → Asked → (count : ℕ) → Step
link_heard w n Link count = record { phase = Before (counted n); next = None; store = w; out = [] }
link_heard w n Bad count = bad_link w n count
link_heard w n (Open hops) count = bad_link w n count
link_heard w n Offer count = bad_link w n count
link_heard w n Tick count = bad_link w n count

abbrev pub links_heard : (links : List ℕ) → (n : ℕ) → Asked → (numbers : List ℕ) → List ℕ
links_heard links n Link numbers = kept links n numbers
links_heard links n Bad numbers = links
links_heard links n (Open hops) numbers = links
links_heard links n Offer numbers = links
links_heard links n Tick numbers = links

-- A line, the `count`th of the script: "The network is set up at the first line whose first word is not `link`".
unfoldable pub played : Phase → Store → (links : List ℕ) → (text : Text) → (count : ℕ) → Step
played Over w links text count = record { phase = Over; next = None; store = w; out = [] }
played Running w links text count = answered w (read_line text) (numbers_of text) count
played (Before n) w links text count =
    elim (is_link text) [
      | true ↦ link_heard w n (read_line text) count
      | false ↦ first (started w links n) (read_line text) (numbers_of text) count
    ]

-- and the numbers of the good `link` lines so far
unfoldable pub played_links : Phase → (links : List ℕ) → (text : Text) → List ℕ
played_links Over links text = links
played_links Running links text = links
played_links (Before n) links text =
    elim (is_link text) [ true ↦ links_heard links n (read_line text) (numbers_of text) | false ↦ links ]

-- "or at the end of the input"
unfoldable pub ended : Phase → Store → (links : List ℕ) → Step
ended (Before n) w links = started w links n
ended Running w links = record { phase = Running; next = None; store = w; out = [] }
ended Over w links = record { phase = Over; next = None; store = w; out = [] }
