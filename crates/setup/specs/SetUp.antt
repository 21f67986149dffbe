-- Document 01, network set-up: refusals 16 and 17, and the store after the call.
use Rattle.std.specs.Prelude.{ℕ, true, false, List}
use Rattle.std.specs.declared.result.Result.{Result}
use Rattle.std.specs.declared.result.Result.TheVariants.{Ok, Err}
use Rattle.kinds.specs.Ranges.{in_range_links}
use Rattle.folds.specs.Folds.{first_not}
use Rattle.store.specs.Layout.{Store}
use Rattle.store.specs.Sound.{long_enough}
use Rattle.kinds.specs.declared.Refusal.{Refusal}
use Rattle.kinds.specs.declared.Refusal.TheVariants.{BadLinks, NotSound}
use Rattle.kinds.specs.Refusals.{number_of, place_of}
use Rattle.setup_list.specs.List.{links_in, link_passes_at, links_pass}
use Rattle.setup_fresh.specs.Fresh.{fresh_store}

-- "set-up 16, then 17 exactly if the lent store is shorter than one fixed length". 16: "no links or more than 16 (place 0,
-- looked at first)"; then the links in turn, place: "first such".
unfoldable pub set_up_answer : Store → (numbers : List ℕ) → Result (Unit {0}) Refusal
set_up_answer w numbers =
    elim (in_range_links (links_in numbers)) [
      | true ↦ elim (links_pass numbers) [
        | true ↦ elim (long_enough w) [ true ↦ Ok tt | false ↦ Err NotSound ]
        | false ↦ Err (BadLinks (first_not (link_passes_at numbers) (links_in numbers)))
      ]
      | false ↦ Err (BadLinks 0)
    ]

-- the store after the call; on a refusal "nothing stored changes"
abbrev pub store_on : Result (Unit {0}) Refusal → Store → (numbers : List ℕ) → Store
store_on (Ok done) w numbers = fresh_store w numbers
store_on (Err refusal) w numbers = w

unfoldable pub set_up_store : Store → (numbers : List ℕ) → Store
set_up_store w numbers = store_on (set_up_answer w numbers) w numbers

-- Each case of the answer in document 01's numbers: the refusal's number and place, 0 and 0 where the call ran.
pub record Values : Type 0 where
  pub number : ℕ
  pub place : ℕ

abbrev pub values_of : Result (Unit {0}) Refusal → Values
values_of (Ok done) = record { number = 0; place = 0 }
values_of (Err refusal) = record { number = number_of refusal; place = place_of refusal }
