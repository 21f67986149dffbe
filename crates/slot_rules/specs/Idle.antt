-- Long waits: how many slots from now no link can send in, and the clock moved on over them.
use Rattle.std.specs.Prelude.{ℕ, ◌+◌, ◌-◌, min, Bool, List, [], ◌∷◌, eqb, ltb}
use Rattle.std.specs.declared.result.Result.{Result}
use Rattle.std.specs.declared.result.Result.TheVariants.{Ok, Err}
use Rattle.kinds.specs.Ranges.{end_slot}
use Rattle.kinds.specs.Refusals.{number_of, place_of}
use Rattle.kinds.specs.declared.Refusal.{Refusal}
use Rattle.kinds.specs.declared.Refusal.TheVariants.{EndSlot, NotSound}
use Rattle.store.specs.Layout.{Store, links_of, clock_of, with_clock}
use Rattle.folds.specs.Folds.{every, first_not}
use Rattle.store.specs.Sound.{sound_of}
use Rattle.checks.specs.Checks.{Check, check, first_failed}
use Rattle.slot_rules.specs.Pick.{pick_of}

-- link l sends nothing in the present slot
abbrev pub rests : Store → (l : ℕ) → Bool
rests w l = eqb (pick_of w l) 0

-- nor does any link i slots from now, if nothing is offered or sent until then
abbrev pub quiet : Store → (i : ℕ) → Bool
quiet w i = every (rests (with_clock w (clock_of w + i))) (links_of w)

-- how many slots from now are quiet, one after the other: all of them up to the end slot if nothing is held
unfoldable pub idle_of : Store → ℕ
idle_of w = first_not (quiet w) (end_slot - clock_of w)

-- n of them are skipped, or as many as there are
abbrev pub skipped : Store → (n : ℕ) → ℕ
skipped w n = min n (idle_of w)

-- Document 01's first two checks of a slot, 17 and 14: where they fail no slot runs, and there is none to wait for.
abbrev pub wait_checks : Store → List Check
wait_checks w = check NotSound (sound_of w) ∷ (check EndSlot (ltb (clock_of w) end_slot) ∷ [])

-- so many slots
unfoldable pub idle_answer : Store → Result ℕ Refusal
idle_answer w = first_failed Err (wait_checks w) (Ok (idle_of w))

unfoldable pub skip_answer : Store → (n : ℕ) → Result ℕ Refusal
skip_answer w n = first_failed Err (wait_checks w) (Ok (skipped w n))

-- "Nothing stored changes" on a refusal
abbrev pub store_on : Result ℕ Refusal → Store → Store
store_on (Ok slots) w = with_clock w (clock_of w + slots)
store_on (Err refusal) w = w

unfoldable pub skip_store : Store → (n : ℕ) → Store
skip_store w n = store_on (skip_answer w n) w

-- Each case of the answer in numbers: the refusal's number and place, 0 and 0 where there is none, and then how many slots. A
-- refusal writes no output: `slots` then stays as it was before the call.
pub record Values : Type 0 where
  pub number : ℕ
  pub place : ℕ
  pub slots : ℕ

abbrev pub values_of : Result ℕ Refusal → (slots : ℕ) → Values
values_of (Ok n) slots = record { number = 0; place = 0; slots = n }
values_of (Err refusal) slots = record { number = number_of refusal; place = place_of refusal; slots = slots }
