-- What the answer to an offer says: what an accepted one stands on, and that 17 is never given.
use Prim.Native.Nat.{ℕ}
use mathlib.Core.Path.{◌≡◌, refl, sym, ap, ◌∙◌}
use native.Mathlib.Omega.{arith}
use lib.ListN.{take, drop}
use borrow.Author.Tests.{ltb-true}
use Rattle.std.specs.declared.result.Result.{Result}
use Rattle.std.specs.declared.result.Result.TheVariants.{Ok, Err}
use Rattle.kinds.specs.declared.Refusal.{Refusal}
use Rattle.kinds.specs.declared.Refusal.TheVariants.{NotSound}
use Rattle.offer_rules.specs.declared.Accepted.{Accepted as Answered}
use Rattle.kinds.specs.Ranges.{end_slot}
use Rattle.kinds.proofs.Laws.{within_true}
use Rattle.store.specs.Layout.{Store, channels_of, clock_of, c_of, messages_of}
use Rattle.store.proofs.Laws.Sound.{is_sound}
use Rattle.checks.proofs.Laws.{AllHold, hold_append, failed_append, all_passed, accepted_all, clear_other, clear_passed}
use Rattle.offer_rules.specs.Offer.{offer_time, offered, offer_checks, offer_answer, offer_store}
use Rattle.promise_view.specs.View.{Accepted}
use Rattle.promise_view.proofs.Seen.{Seen, Steady, InBurst}
use Rattle.promise_offer.proofs.Passed.{Passed}
use Rattle.promise_offer.proofs.Seen.{offer_sound}

passed_is : (w : Store) (x packets : ℕ) → AllHold (take 5 (offer_checks w x packets)) → Passed w x packets
passed_is w x packets h =
    let size = within_true 1 (c_of w x) packets h.1.1.1.0 in
    record {
      running = ltb-true (clock_of w) end_slot h.1.0;
      known = ltb-true x (channels_of w) h.1.1.0;
      least = size.0;
      most = size.1;
      burst = h.1.1.1.1.0;
    }

-- an accepted offer: its checks have passed, its number counts from 0, and the store after it
pub record AcceptedIs (w : Store) (x packets : ℕ) (y : Answered) : Type 0 where
  pub passed : Passed w x packets
  pub number_is : y.message ≡ messages_of w x
  pub time_is : y.time ≡ offer_time w x
  pub store_is : offer_store w x packets ≡ offered w x packets

pub accepted_is : (w : Store) (x packets : ℕ) (y : Answered) → offer_answer w x packets ≡ Ok y → AcceptedIs w x packets y
unfolding offer_answer offer_store
accepted_is w x packets y e =
    let checks = offer_checks w x packets in
    let all : AllHold checks =
    accepted_all Err checks _ _ (λ m f. let z : ◌≡◌ {A = ℕ} 0 1 = cc in omega arith) e in
    let same : y ≡ record { message = messages_of w x; time = offer_time w x } = cc (e, all_passed Err checks _ all) in
    record {
      passed = passed_is w x packets (hold_append (take 5 checks) (drop 5 checks) all).0;
      number_is = ap (λ (z : Answered). z.message) same;
      time_is = ap (λ (z : Answered). z.time) same;
      store_is = rw (e, offer_store);
    }

-- "On a store reached from set-up the other calls never give 17."
pub never_17 : {w : Store} {all : Accepted} → Seen w all → Steady w all → InBurst w all → (x packets : ℕ)
    → offer_answer w x packets ≡ Err NotSound → ⊥
unfolding offer_answer
never_17 {w} s on burst x packets e =
    let checks = offer_checks w x packets in
    let yes : Result Answered Refusal = Ok (record { message = messages_of w x; time = offer_time w x }) in
    let early = clear_passed Err (λ m n f. cc) NotSound (take 5 checks) _
    ((λ _. is_sound w s.sound), clear_other NotSound (drop 1 (take 5 checks)) refl)
    (sym (failed_append Err (take 5 checks) (drop 5 checks) yes) ∙ e) in
    let last = all_passed Err (drop 5 checks) yes (offer_sound s (passed_is w x packets early.0) on burst, tt) in
    let z : ◌≡◌ {A = ℕ} 0 1 = cc (last, early.1) in
    omega arith
