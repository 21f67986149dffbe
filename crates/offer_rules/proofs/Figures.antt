-- The offers of document 01's listing, computed from the definitions.
use Prim.Native.Nat.{ℕ}
use mathlib.Core.Path.{◌≡◌, refl}
use lib.ListN.{replicate, take, drop}
use Rattle.std.specs.declared.result.Result.{Result}
use Rattle.std.specs.declared.result.Result.TheVariants.{Ok, Err}
use Rattle.kinds.specs.Ranges.{end_slot}
use Rattle.kinds.specs.declared.Refusal.{Refusal}
use Rattle.kinds.specs.declared.Refusal.TheVariants.{NoChannel, MessageLength, Burst, EndSlot}
use Rattle.store.specs.Layout.{Store, messages_of, with_channels, with_clock, with_c, with_p, with_b}
use Rattle.checks.specs.Checks.{first_failed}
use Rattle.offer_rules.specs.declared.Accepted.{Accepted}
use Rattle.offer_rules.specs.Offer.{offer_time, offered, offer_checks}

-- what 14, 11, 12 and 13 say of an offer
outcome : Store → (x packets : ℕ) → Result Accepted Refusal
outcome w x packets =
    first_failed Err (take 4 (drop 1 (offer_checks w x packets))) (Ok (record { message = messages_of w x; time = offer_time w x }))

-- the listing's channels 0 and 1, and channel 0 after its first and its second message
opened : Store
opened = with_b (with_p (with_c (with_b (with_p (with_c (with_channels (replicate 2_000 0) 2) 0 2) 0 10) 0 2) 1 3) 1 12) 1 1

once : Store
once = offered opened 0 2

twice : Store
twice = offered once 0 2

-- "accept 0 0 0", "accept 0 1 10", "refused 13 0", "accept 1 0 0"
first : outcome opened 0 2 ≡ Ok (record { message = 0; time = 0 })
unfolding outcome opened first_failed
first = refl

second : outcome once 0 2 ≡ Ok (record { message = 1; time = 10 })
unfolding outcome opened once offered first_failed
second = refl

third : outcome twice 0 1 ≡ Err Burst
unfolding outcome opened once twice offered first_failed
third = refl

fourth : outcome twice 1 3 ≡ Ok (record { message = 0; time = 0 })
unfolding outcome opened once twice offered first_failed
fourth = refl

-- the order of the checks: 14, 11, 12, 13
end_first : outcome (with_clock twice end_slot) 2 0 ≡ Err EndSlot
unfolding outcome opened once twice offered first_failed
end_first = refl

unknown_first : outcome twice 2 0 ≡ Err NoChannel
unfolding outcome opened once twice offered first_failed
unknown_first = refl

size_first : outcome twice 0 3 ≡ Err MessageLength
unfolding outcome opened once twice offered first_failed
size_first = refl
