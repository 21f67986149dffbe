-- The answer to an open, and the store after it.
use Rattle.std.specs.Prelude.{ℕ, List, replicate}
use Rattle.std.specs.declared.result.Result.{Result}
use Rattle.std.specs.declared.result.Result.TheVariants.{Ok, Err}
use Rattle.store.specs.Layout.{Store, channels_of}
use Rattle.kinds.specs.declared.Refusal.{Refusal}
use Rattle.kinds.specs.Refusals.{number_of, place_of}
use Rattle.open_rules.specs.declared.Opening.{Opening}
use Rattle.open_rules.specs.Request.{Request, hops}
use Rattle.open_rules.specs.Shares.{eight}
use Rattle.open_rules.specs.Refusal.{open_refusal, responses_of, delays_of, reserved_for, opened}

-- "either the channel's number or the refusal with its number and place"; channels are "numbered from 0 as opened"
unfoldable pub open_outcome : Store → Request → Result ℕ Refusal
open_outcome w q = open_refusal w q (Ok (channels_of w))

-- "the numbers per link stand beside it, all 0 on a refusal and past the end of the route"
abbrev pub refusal : Refusal → Opening
refusal e =
    record { outcome = Err e; responses = replicate 8 0; delays = replicate 8 0; reserved = replicate 8 0 }

abbrev pub answer_on : Result ℕ Refusal → Store → Request → Opening
answer_on (Ok channel) w q = record {
  outcome = Ok channel;
  responses = eight (responses_of w q) (hops q);
  delays = eight (delays_of w q) (hops q);
  reserved = eight (reserved_for w q) (hops q);
}
answer_on (Err e) w q = refusal e

unfoldable pub open_answer : Store → Request → Opening
open_answer w q = answer_on (open_outcome w q) w q

-- "Nothing stored changes" on a refusal
abbrev pub store_on : Result ℕ Refusal → Store → Request → Store
store_on (Ok channel) w q = opened w q
store_on (Err e) w q = w

unfoldable pub open_store : Store → Request → Store
open_store w q = store_on (open_outcome w q) w q

-- Each case of the answer in document 01's numbers: the refusal's number and place, 0 and 0 where the channel was opened, and its
-- number. A refusal writes no output but the numbers per link: `channel` then stays as it was before the call.
pub record Values : Type 0 where
  pub number : ℕ
  pub place : ℕ
  pub channel : ℕ
  pub responses : List ℕ
  pub delays : List ℕ
  pub reserved : List ℕ

abbrev pub values_on : Result ℕ Refusal → (channel : ℕ) → (responses delays reserved : List ℕ) → Values
values_on (Ok n) channel responses delays reserved =
    record { number = 0; place = 0; channel = n; responses = responses; delays = delays; reserved = reserved }
values_on (Err e) channel responses delays reserved =
    record { number = number_of e; place = place_of e; channel = channel; responses = responses; delays = delays; reserved = reserved }

abbrev pub values_of : Opening → (channel : ℕ) → Values
values_of a channel = values_on a.outcome channel a.responses a.delays a.reserved
