-- Document 01, "Offering": "All packets of a message are offered at once."
use Rattle.std.specs.Prelude.{ℕ, zero, suc, ◌+◌, ◌-◌, ◌*◌, max, Bool, List, [], ◌∷◌, leb, ltb}
use Rattle.std.specs.declared.result.Result.{Result}
use Rattle.std.specs.declared.result.Result.TheVariants.{Ok, Err}
use Rattle.kinds.specs.Ranges.{within, end_slot}
use Rattle.kinds.specs.Refusals.{number_of, place_of}
use Rattle.kinds.specs.declared.Refusal.{Refusal}
use Rattle.kinds.specs.declared.Refusal.TheVariants.{NoChannel, MessageLength, Burst, EndSlot, NotSound}
use Rattle.store.specs.Layout.{Store, clock_of, c_of, p_of, b_of, messages_of, time_of, with_messages, with_time, with_end, is_channel}
use Rattle.store.specs.Amounts.{accepted_of}
use Rattle.store.specs.Sound.{sound_of}
use Rattle.checks.specs.Checks.{Check, check, first_failed}
use Rattle.offer_rules.specs.declared.Accepted.{Accepted}

-- "Its logical time is the larger of the present slot and the channel's last logical time plus p; for the first it is the present
-- slot."
abbrev pub time_after : Store → (x messages : ℕ) → ℕ
time_after w x zero = clock_of w
time_after w x (suc n) = max (clock_of w) (time_of w x (suc n) + p_of w x)

abbrev pub offer_time : Store → (x : ℕ) → ℕ
offer_time w x = time_after w x (messages_of w x)

-- "It is accepted exactly when logical time − present slot is at most (B − 1) × p."
abbrev pub in_burst : Store → (x : ℕ) → Bool
in_burst w x = leb (offer_time w x - clock_of w) ((b_of w x - 1) * p_of w x)

-- an accepted message of so many packets: one message more, with its logical time and the number of packets up to its end
unfoldable pub offered : Store → (x packets : ℕ) → Store
offered w x packets =
    with_messages (with_end (with_time w x (messages_of w x + 1) (offer_time w x)) x (messages_of w x + 1) (accepted_of w x + packets))
    x (messages_of w x + 1)

-- "Checks run in this order: .. offer 17, 14, 11, 12, 13"; 17 once more "after all other checks"
abbrev pub offer_checks : Store → (x packets : ℕ) → List Check
offer_checks w x packets =
    check NotSound (sound_of w)
    ∷ (check EndSlot (ltb (clock_of w) end_slot)
    ∷ (check NoChannel (is_channel w x)
    ∷ (check MessageLength (within 1 (c_of w x) packets)
    ∷ (check Burst (in_burst w x)
    ∷ (check NotSound (sound_of (offered w x packets))
    ∷ [])))))

-- Messages are counted from 0 in an answer: the new one has the number of those before it.
unfoldable pub offer_answer : Store → (x packets : ℕ) → Result Accepted Refusal
offer_answer w x packets =
    first_failed Err (offer_checks w x packets) (Ok (record { message = messages_of w x; time = offer_time w x }))

-- "A refused message does not move the last logical time", nor anything else.
abbrev pub store_on : Result Accepted Refusal → Store → (x packets : ℕ) → Store
store_on (Ok accepted) w x packets = offered w x packets
store_on (Err refusal) w x packets = w

unfoldable pub offer_store : Store → (x packets : ℕ) → Store
offer_store w x packets = store_on (offer_answer w x packets) w x packets

-- Each case of the answer in document 01's numbers: the refusal's number and place, 0 and 0 where the message was accepted, and
-- then its number and logical time. A refusal writes no output: those two then stay as they were before the call.
pub record Values : Type 0 where
  pub number : ℕ
  pub place : ℕ
  pub message : ℕ
  pub logical : ℕ

abbrev pub values_of : Result Accepted Refusal → (message logical : ℕ) → Values
values_of (Ok x) message logical = record { number = 0; place = 0; message = x.message; logical = x.time }
values_of (Err refusal) message logical =
    record { number = number_of refusal; place = place_of refusal; message = message; logical = logical }
