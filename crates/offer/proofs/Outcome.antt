-- From the checks to the answer and the store after it.
use Prim.Native.Nat.{ℕ, ◌≤◌, ◌<◌}
use mathlib.Core.Path.{◌≡◌}
use mathlib.Core.Bool.{true}
use lib.ListN.{take}
use borrow.Author.Tests.{ltb-true}
use Rattle.kinds.specs.Ranges.{end_slot, within}
use Rattle.kinds.proofs.Laws.{within_true}
use Rattle.store.specs.Layout.{Store, channels_of, clock_of, c_of, messages_of, IsChannel}
use Rattle.store.specs.Sound.{sound_of}
use Rattle.checks.proofs.Laws.{AllHold, all_passed}
use Rattle.std.specs.declared.result.Result.TheVariants.{Ok, Err}
use Rattle.kinds.specs.declared.Refusal.{Refusal}
use Rattle.offer_rules.specs.declared.Accepted.{Accepted}
use Rattle.offer_rules.specs.Offer.{offer_time, in_burst, offered, offer_checks, offer_answer, offer_store}
use Rattle.offer_keeps.specs.Room.{takes_message}
use Rattle.offer_keeps.proofs.Sound.{offered_sound}

-- What the checks before the last one say.
pub record Passed (w : Store) (x packets : ℕ) : Type 0 where
  pub sound : sound_of w ≡ true
  pub running : clock_of w < end_slot
  pub known : IsChannel w x
  pub least : 1 ≤ packets
  pub most : packets ≤ c_of w x
  pub burst : in_burst w x ≡ true

module _ (w : Store) (x packets : ℕ) where
  pub passed_is : AllHold (take 5 (offer_checks w x packets)) → Passed w x packets
  passed_is h =
      let size = within_true 1 (c_of w x) packets h.1.1.1.0 in
      record {
        sound = h.0;
        running = ltb-true (clock_of w) end_slot h.1.0;
        known = ltb-true x (channels_of w) h.1.1.0;
        least = size.0;
        most = size.1;
        burst = h.1.1.1.1.0;
      }

  -- the last check, as the code looks at it
  pub room_is : sound_of w ≡ true → clock_of w < end_slot → IsChannel w x → within 1 (c_of w x) packets ≡ true → in_burst w x ≡ true
      → sound_of (offered w x packets) ≡ takes_message w x packets
  room_is e r k s b =
      let size = within_true 1 (c_of w x) packets s in
      offered_sound w x packets e r k size.0 size.1 b

  pub answer_accepted : AllHold (offer_checks w x packets)
      → offer_answer w x packets ≡ Ok (record { message = messages_of w x; time = offer_time w x })
  unfolding offer_answer
  answer_accepted h = all_passed Err (offer_checks w x packets) _ h

  pub store_refused : {refusal : Refusal} → offer_answer w x packets ≡ Err refusal → offer_store w x packets ≡ w
  unfolding offer_store
  store_refused e = rw (e, offer_store)

  pub store_accepted : {accepted : Accepted} → offer_answer w x packets ≡ Ok accepted → offer_store w x packets ≡ offered w x packets
  unfolding offer_store
  store_accepted e = rw (e, offer_store)
