-- The response-time calculation: each contract permits one outcome only.
use mathlib.Core.Path.{◌≡◌, refl}
use seplogic.Ra.Ura.{Ura}
use base.Logic.{SProp}
use prog.Memory.{Memory}
use prog.Routine.{Routine}
use types.Logic.{Logic}
use contract.Lifetimes.{Lfts}
use contract.Monad.{Fun, fact}
use denote.Triple.Entry.{Args, Res}
use denote.Triple.Clauses.{AtExit}
use Rattle.response.specs.Alone.{alone}
use Rattle.response.specs.contracts as response
use Rattle.response.proofs as response_proofs
use Rattle.response_table.specs.contracts as response_table
use Rattle.response_table.proofs as response_table_proofs
use Rattle.unique.specs.Unique.{Says, Unique}
use Rattle.unique.proofs.Shapes.{whole, answer}

pub response_response_under : Unique response.response_under.ended response_proofs.response_under.Reads.Post
response_response_under κs a = whole answer

pub response_response_alone : Unique response.response_alone.ended response_proofs.response_alone.Reads.Post
response_response_alone κs a = whole answer

pub response_table_response_of_table : Unique response_table.response_of_table.ended response_table_proofs.response_of_table.Reads.Post
response_table_response_of_table κs a = whole answer

pub response_table_response_of_rows : Unique response_table.response_of_rows.ended response_table_proofs.response_of_rows.Reads.Post
response_table_response_of_rows κs a = whole answer

-- What the contract of `response_of_rows` says is that one equation, and nothing beside it.
abbrev pub says : Says response_table.response_of_rows.ended
says κs a z e = z ≡ alone a.0.now a.1.0 a.1.1.0

pub rows_says : {M : Type 1} {𝓤 : Ura M} (𝓛 : Logic 𝓤) (mem : Memory → SProp 𝓤) (run : Routine → Fun 𝓤)
    (κs : Lfts 1) (a : Args response_table.response_of_rows.signature κs) (z : Res response_table.response_of_rows.signature κs)
    (e : AtExit response_table.response_of_rows.ended κs)
    → (response_table.response_of_rows.clauses 𝓛 mem run κs a).ensures tt z e ≡ fact 𝓤 (says κs a z e)
rows_says 𝓛 mem run κs a z e = refl

pub response_of_rows : Unique response_table.response_of_rows.ended says
response_of_rows κs a = whole answer
