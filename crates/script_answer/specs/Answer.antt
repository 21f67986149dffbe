-- What a line of a running room does and writes: document 01, "The program's listing".
use Rattle.std.specs.Prelude.{ℕ, ◌+◌, Result, Ok, Err, List, [], take, drop}
use Rattle.text_decimal.specs.Decimal.{Text}
use Rattle.kinds.specs.declared.Refusal.{Refusal}
use Rattle.kinds.specs.Refusals.{number_of, place_of}
use Rattle.store.specs.Layout.{Store, number_at}
use Rattle.open_rules.specs.declared.Opening.{Opening}
use Rattle.open_rules.specs.Request.{Request}
use Rattle.open_rules.specs.Open.{open_answer, open_store}
use Rattle.offer_rules.specs.declared.Accepted.{Accepted}
use Rattle.offer_rules.specs.Offer.{offer_answer, offer_store}
use Rattle.script_line.specs.declared.Line.{Line}
use Rattle.script_line.specs.declared.Line.TheVariants.{Bad, Link, Open, Offer, Tick}
use Rattle.script_listing.specs.Listing.{channel_line, refused_line, accept_line, bad_line}

-- "`open` C, p, D, B, route"
abbrev pub request_in : (numbers : List ℕ) → (hops : ℕ) → Request
request_in numbers hops = record {
  c = number_at numbers 0;
  p = number_at numbers 1;
  d = number_at numbers 2;
  b = number_at numbers 3;
  route = take hops (drop 4 numbers);
}

-- "`channel` number, then response/delay/reserved per link", or "`refused` number, place"
abbrev pub opened_out : Result ℕ Refusal → (responses delays reserved : List ℕ) → (hops : ℕ) → Text
opened_out (Ok channel) responses delays reserved hops = channel_line channel responses delays reserved hops
opened_out (Err refusal) responses delays reserved hops = refused_line (number_of refusal) (place_of refusal)

abbrev pub open_out : Opening → (hops : ℕ) → Text
open_out a hops = opened_out a.outcome a.responses a.delays a.reserved hops

-- "`accept` channel, message, logical time", or "`refused` number, place"
abbrev pub offer_out : Result Accepted Refusal → (channel : ℕ) → Text
offer_out (Ok accepted) channel = accept_line channel accepted.message accepted.time
offer_out (Err refusal) channel = refused_line (number_of refusal) (place_of refusal)

-- A line of a running room, the `count`th of the script: the store after it, and what it writes. "A line that does not read, an
-- empty one or a `link` after set-up prints `bad` and its number, counted from 1". The slots of a `tick` come after it.
abbrev pub asked_store : Store → Line → (numbers : List ℕ) → Store
asked_store w Bad numbers = w
asked_store w Link numbers = w
asked_store w (Open hops) numbers = open_store w (request_in numbers hops)
asked_store w Offer numbers = offer_store w (number_at numbers 0) (number_at numbers 1)
asked_store w Tick numbers = w

abbrev pub asked_out : Store → Line → (numbers : List ℕ) → (count : ℕ) → Text
asked_out w Bad numbers count = bad_line count
asked_out w Link numbers count = bad_line count
asked_out w (Open hops) numbers count = open_out (open_answer w (request_in numbers hops)) hops
asked_out w Offer numbers count =
    offer_out (offer_answer w (number_at numbers 0) (number_at numbers 1)) (number_at numbers 0)
asked_out w Tick numbers count = []

-- how many numbers a line has at least
abbrev pub asks_of : Line → ℕ
asks_of Bad = 0
asks_of Link = 4
asks_of (Open hops) = 4 + hops
asks_of Offer = 2
asks_of Tick = 1
