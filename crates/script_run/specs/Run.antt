-- A run of the program: what is kept from step to step, what a step does, and what many of them write.
use Rattle.std.specs.Prelude.{ℕ, ◌<◌, ◌≡◌, Bool, true, false, None, List, [], ◌∷◌, ◌++◌, length, take, drop, replicate}
use Rattle.text_decimal.specs.Decimal.{Text}
use Rattle.store.specs.Layout.{Store, store_length}
use Rattle.text_lines.specs.Lines.{most_kept}
use Rattle.script_listing.specs.Buffer.{last_for_slot}
use Rattle.script_play.specs.declared.Phase.TheVariants.{Before}
use Rattle.script_play.specs.Play.{links_length}
use Rattle.script_run.specs.declared.Run.{Run}
use Rattle.script_run.specs.declared.Wants.{Wants}
use Rattle.script_run.specs.declared.Wants.TheVariants.{Room, Chunk, Nothing}
use Rattle.script_run.specs.Listing.{rest_out}

-- what is still to be written into the buffer, where `rest` of the script is still to come
abbrev pub run_out : Run → Store → (links text : List ℕ) → (rest : Text) → Text
run_out run w links text rest = rest_out run.phase run.next w links run.lines (take run.length text) rest

-- what is still to be written out: what stands in the buffer, and then that
abbrev pub owed : (out : List ℕ) → Run → Store → (links text : List ℕ) → (rest : Text) → Text
owed out run w links text rest = take run.at out ++ run_out run w links text rest

-- All that is kept from step to step.
pub record State : Type 0 where
  pub run : Run
  pub store : Store
  pub links : List ℕ
  pub text : List ℕ

abbrev pub rest_of : State → (rest : Text) → Text
rest_of s rest = run_out s.run s.store s.links s.text rest

-- what comes after a step: the chunk from where it goes on, unless it is used up, and then `more`
abbrev pub coming : Wants → State → (chunk more : Text) → Text
coming Room s chunk more = drop s.run.from chunk ++ more
coming Chunk s chunk more = more
coming Nothing s chunk more = more

-- A step with a chunk, which has put `written` into the buffer. Whatever comes after the chunk: what was to be written before
-- the step is that, and then what is to be written after it. An empty chunk is the end of the input: nothing comes after it.
pub record Goes (chunk : Text) (before : State) (written : Text) (after : State) (wants : Wants) : Type 0 where
  pub same : (more : Text) → (chunk ≡ [] → more ≡ [])
      → rest_of before (drop before.run.from chunk ++ more) ≡ written ++ rest_of after (coming wants after chunk more)
  pub full : wants ≡ Room → last_for_slot < length written
  pub used : wants ≡ Chunk → (0 < length chunk) × (after.run.from ≡ 0)
  pub over : wants ≡ Nothing → (rest : Text) → rest_of after rest ≡ []

-- The start.
abbrev pub start_run : Run
start_run = record { phase = Before 0; next = None; lines = 0; length = 0; from = 0; at = 0 }

abbrev pub start_state : State
start_state = record {
  run = start_run;
  store = replicate store_length 0;
  links = replicate links_length 0;
  text = replicate most_kept 0;
}

-- Steps one after the other, from a state with a chunk: the chunks that are read from there on, and all that is written. In the
-- end the run is over, or it wants a chunk that cannot be read.
pub data Ran : (over : Bool) → Wants → State → (chunk : Text) → (chunks : List Text) → (out : Text) → Type 0 where
  ended : (s : State) (chunk : Text) → Ran true Nothing s chunk [] []
  cut : (s : State) (chunk : Text) → Ran false Chunk s chunk [] []
  room : (over : Bool) (s t : State) (wants : Wants) (chunk : Text) (chunks : List Text) (written out : Text)
      → Goes chunk s written t wants → Ran over wants t chunk chunks out → Ran over Room s chunk chunks (written ++ out)
  read : (over : Bool) (s t : State) (wants : Wants) (chunk next : Text) (chunks : List Text) (written out : Text)
      → Goes next s written t wants → Ran over wants t next chunks out → Ran over Chunk s chunk (next ∷ chunks) (written ++ out)

-- the script that comes in such chunks, and in what would come after them
abbrev pub script_of : (chunks : List Text) → (more : Text) → Text
script_of [] more = more
script_of (chunk ∷ chunks) more = chunk ++ script_of chunks more

-- nothing comes after an empty chunk
abbrev pub Comes : (chunks : List Text) → (more : Text) → Type 0
Comes [] more = Unit {0}
Comes (chunk ∷ chunks) more = (chunk ≡ [] → script_of chunks more ≡ []) × Comes chunks more
