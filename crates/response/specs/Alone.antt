-- Document 01, "Numbers given back on a refusal", number 18: the response-time calculation by itself.
use Rattle.std.specs.Prelude.{ℕ, List, Bool, true, false, ◌&&◌, length}
use Rattle.std.specs.Option.{unwrap_or}
use Rattle.std.specs.declared.result.Result.{Result}
use Rattle.std.specs.declared.result.Result.TheVariants.{Ok, Err}
use Rattle.kinds.specs.Ranges.{in_range_c, in_range_p, in_range_rows}
use Rattle.kinds.specs.declared.Refusal.{Refusal}
use Rattle.kinds.specs.declared.Refusal.TheVariants.{BadTable}
use Rattle.kinds.specs.Refusals.{number_of, place_of}
use Rattle.response.specs.declared.Row.{Row}
use Rattle.response.specs.declared.Answer.{Answer}
use Rattle.response.specs.Trials.{response}
use Rattle.response.specs.Numbers.{rows_in, whole_rows, rows_in_range}

-- 18 is "given exactly when" this is false: "over 32 rows, a row's C or p, or the limit or own C, out of range";
-- "the limit in 18 has p's range"
abbrev pub askable : List Row → (own limit : ℕ) → Bool
askable rows own limit = in_range_rows (length rows) && (in_range_c own && (in_range_p limit && rows_in_range rows))

abbrev pub refused18 : Result Answer Refusal
refused18 = Err BadTable

-- the answer to the call on rows
unfoldable pub alone : List Row → (own limit : ℕ) → Result Answer Refusal
alone rows own limit = elim (askable rows own limit) [ true ↦ Ok (response own rows limit) | false ↦ refused18 ]

-- the answer to the call on numbers, three a row: a part of a row left over is refused too
unfoldable pub alone_on : List ℕ → (own limit : ℕ) → Result Answer Refusal
alone_on numbers own limit = elim (whole_rows numbers) [ true ↦ alone (rows_in numbers) own limit | false ↦ refused18 ]

abbrev pub askable_on : List ℕ → (own limit : ℕ) → Bool
askable_on numbers own limit = whole_rows numbers && askable (rows_in numbers) own limit

-- Each case of the answer in document 01's numbers: the refusal's number and place, 0 and 0 where the call ran; the
-- response, 0 where there is none (a response is at least 1); the number of trials. A refusal writes no output:
-- `response` and `trials` then stay as they were before the call.
pub record Values : Type 0 where
  pub number : ℕ
  pub place : ℕ
  pub response : ℕ
  pub trials : ℕ

abbrev pub values_of : Result Answer Refusal → (response trials : ℕ) → Values
values_of (Ok a) response trials = record { number = 0; place = 0; response = unwrap_or a.response 0; trials = a.trials }
values_of (Err e) response trials = record { number = number_of e; place = place_of e; response = response; trials = trials }
