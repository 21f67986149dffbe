-- How much a step writes.
use Prim.Native.Nat.{ℕ, ◌+◌, ◌≤◌}
use Rattle.std.specs.Prelude.{Result, Ok, Err}
use mathlib.Core.Path.{◌≡◌, ap}
use mathlib.Core.List.{List, [], ◌∷◌}
use native.Mathlib.Omega.{arith}
use lib.ListN.{length}
use Rattle.kinds.specs.declared.Refusal.{Refusal}
use Rattle.kinds.specs.Refusals.{number_of, place_of}
use Rattle.store.specs.Layout.{Store}
use Rattle.setup.specs.SetUp.{set_up_answer, set_up_store}
use Rattle.script_listing.specs.Listing.{links_word}
use Rattle.script_listing.proofs.Laws.Lengths.{line_length}
use Rattle.script_answer.proofs.Laws.{refused_length}
use Rattle.script_play.specs.declared.Played.{Played}
use Rattle.script_play.specs.Play.{started_on, started}
use Rattle.script_play.specs.At.{played_at}

-- the line of a set-up
on_length : (a : Result (Unit {0}) Refusal) (w : Store) (n : ℕ) → length (started_on a w n).out ≤ 50
on_length (Ok done) w n = omega (arith, line_length links_word (n ∷ []))
on_length (Err refusal) w n = refused_length (number_of refusal) (place_of refusal)

pub started_length : (w : Store) (links : List ℕ) (n : ℕ) → length (started w links n).out ≤ 50
unfolding started
started_length w links n = on_length (set_up_answer w _) (set_up_store w _) n

pub started_place : (w : Store) (links : List ℕ) (n at : ℕ) {r : Played} → r ≡ played_at at (started w links n) → r.at ≤ at + 50
started_place w links n at e = omega (arith, ap (λ (x : Played). x.at) e, started_length w links n)
