-- What the answer to an offer says, for the crates above.
use Prim.Native.Nat.{ℕ}
use mathlib.Core.Path.{◌≡◌, refl}
use mathlib.Core.Bool.{true}
use mathlib.Core.Logic.{◌⊎◌, inl, inr}
use lib.ListN.{take, drop}
use Rattle.store.specs.Layout.{Store, messages_of}
use Rattle.store.specs.Sound.{sound_of}
use Rattle.checks.proofs.Laws.{AllHold, accepted_all, refused_one, hold_append}
use Rattle.std.specs.declared.result.Result.{Result}
use Rattle.std.specs.declared.result.Result.TheVariants.{Ok, Err}
use Rattle.kinds.specs.declared.Refusal.{Refusal}
use Rattle.kinds.specs.declared.Refusal.TheVariants.{NoChannel, MessageLength, Burst, EndSlot, NotSound}
use Rattle.offer_rules.specs.declared.Accepted.{Accepted}
use Rattle.offer_rules.specs.Offer.{offer_time, offered, offer_checks, offer_answer, offer_store}
use Rattle.offer.proofs.Outcome.{Passed, passed_is, answer_accepted, store_refused, store_accepted}

-- "offer 17, 14, 11, 12, 13"
abbrev pub Refuses : Refusal → Type 0
Refuses refusal =
    (refusal ≡ NotSound) ⊎ ((refusal ≡ EndSlot) ⊎ ((refusal ≡ NoChannel) ⊎ ((refusal ≡ MessageLength) ⊎ (refusal ≡ Burst))))

module _ (w : Store) (x packets : ℕ) where
  -- What an accepted offer stands on, and the store that it leaves.
  module _ {accepted : Accepted} (a : offer_answer w x packets ≡ Ok accepted) where
    holds : AllHold (offer_checks w x packets)
    unfolding offer_answer
    holds = accepted_all Err (offer_checks w x packets) _ _ (λ m e. absurd cc) a

    pub accepted_passed : Passed w x packets
    accepted_passed =
        passed_is w x packets (hold_append (take 5 (offer_checks w x packets)) (drop 5 (offer_checks w x packets)) holds).0

    -- counted from 0: as many as there were before it
    pub accepted_number : accepted.message ≡ messages_of w x
    accepted_number = let e = answer_accepted w x packets holds in cc

    pub accepted_time : accepted.time ≡ offer_time w x
    accepted_time = let e = answer_accepted w x packets holds in cc

    pub accepted_store : offer_store w x packets ≡ offered w x packets
    accepted_store = store_accepted w x packets a

    pub offer_sound : sound_of (offer_store w x packets) ≡ true
    offer_sound = rw accepted_store holds.1.1.1.1.1.0

  -- What a refusal is, and that it leaves the store.
  module _ {refusal : Refusal} (r : offer_answer w x packets ≡ Err refusal) where
    pub refused_number : Refuses refusal
    unfolding offer_answer
    refused_number =
        refused_one {A = Result Accepted Refusal} Err Refuses (λ m n e. cc) (offer_checks w x packets) _ refusal
        (inl refl, (inr (inl refl), (inr (inr (inl refl)), (inr (inr (inr (inl refl))), (inr (inr (inr (inr refl))), (inl refl, tt))))))
        (λ e. absurd cc) r

    pub refused_store : offer_store w x packets ≡ w
    refused_store = store_refused w x packets r
