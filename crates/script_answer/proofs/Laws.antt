-- How much a line of a running room writes.
use Prim.Native.Nat.{ℕ, ◌≤◌}
use Rattle.std.specs.Prelude.{Result, Ok, Err}
use mathlib.Core.Path.{◌≡◌, refl}
use mathlib.Core.List.{List, [], ◌∷◌}
use native.Mathlib.Omega.{arith}
use lib.ListN.{length}
use Rattle.store.specs.Layout.{Store, number_at}
use Rattle.kinds.specs.declared.Refusal.{Refusal}
use Rattle.kinds.specs.Refusals.{number_of, place_of}
use Rattle.open_rules.specs.declared.Opening.{Opening}
use Rattle.open_rules.specs.Open.{open_answer}
use Rattle.offer_rules.specs.declared.Accepted.{Accepted}
use Rattle.offer_rules.specs.Offer.{offer_answer}
use Rattle.script_line.specs.declared.Line.{Line}
use Rattle.script_line.specs.declared.Line.TheVariants.{Bad, Link, Open, Offer, Tick}
use Rattle.script_listing.specs.Listing.{refused_word, accept_word, bad_word, refused_line, bad_line}
use Rattle.script_listing.proofs.Laws.Lengths.{line_length, channel_length}
use Rattle.script_answer.specs.Answer.{request_in, open_out, offer_out, asked_out, asks_of}
use Rattle.script_answer.proofs.Opened.{opened_few}

pub bad_length : (count : ℕ) → length (bad_line count) ≤ 25
bad_length count = line_length bad_word (count ∷ [])

pub refused_length : (number place : ℕ) → length (refused_line number place) ≤ 50
refused_length number place = line_length refused_word (number ∷ (place ∷ []))

-- of an open, and of an offer
open_length : (a : Opening) (n : ℕ) → ((x : ℕ) → a.outcome ≡ Ok x → n ≤ 8) → length (open_out a n) ≤ 533
open_length a n few = go a.outcome refl
  where
    go : (o : Result ℕ Refusal) → a.outcome ≡ o → length (open_out a n) ≤ 533
    go (Ok x) e = rw e (omega (arith, few x e, channel_length a.responses a.delays a.reserved x n))
    go (Err refusal) e = rw e (omega (arith, refused_length (number_of refusal) (place_of refusal)))

offer_length : (a : Result Accepted Refusal) (channel : ℕ) → length (offer_out a channel) ≤ 533
offer_length (Ok accepted) channel =
    omega (arith, line_length accept_word (channel ∷ (accepted.message ∷ (accepted.time ∷ []))))
offer_length (Err refusal) channel = omega (arith, refused_length (number_of refusal) (place_of refusal))

pub asked_length : (w : Store) (asked : Line) (ns : List ℕ) (count : ℕ) → asks_of asked ≤ length ns
    → length (asked_out w asked ns count) ≤ 533
asked_length w Bad ns count h = omega (arith, bad_length count)
asked_length w Link ns count h = omega (arith, bad_length count)
asked_length w (Open hops) ns count h =
    open_length (open_answer w (request_in ns hops)) hops (λ x e. opened_few w ns hops x h refl e)
asked_length w Offer ns count h = offer_length (offer_answer w (number_at ns 0) (number_at ns 1)) (number_at ns 0)
asked_length w Tick ns count h = omega arith
