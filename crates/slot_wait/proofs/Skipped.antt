-- What the two calls answer and what a skip leaves, by whether the checks hold.
use Prim.Native.Nat.{ℕ, ◌+◌, ◌≤◌, min}
use mathlib.Core.Path.{◌≡◌}
use native.Mathlib.Omega.{arith}
use Rattle.kinds.specs.Ranges.{end_slot}
use Rattle.store.specs.Layout.{Store, Long, with_clock, clock_of}
use Rattle.store.proofs.Laws.Sound.{Sound, sound_is}
use Rattle.checks.proofs.Laws.{AllHold, all_passed, accepted_all, refused_as}
use Rattle.std.specs.declared.result.Result.{Result}
use Rattle.std.specs.declared.result.Result.TheVariants.{Ok, Err}
use Rattle.kinds.specs.declared.Refusal.{Refusal}
use Rattle.slot_rules.specs.Idle.{idle_of, skipped, wait_checks, idle_answer, skip_answer, skip_store}
use Rattle.slot_wait.proofs.Least.{idle_most}

module _ (w : Store) where
  idle_slots : AllHold (wait_checks w) → idle_answer w ≡ Ok (idle_of w)
  unfolding idle_answer
  idle_slots h = all_passed Err (wait_checks w) (Ok (idle_of w)) h

  -- what a skip leaves: nothing changed where it is refused, and else the clock moved on
  module _ (n : ℕ) where
    pub skip_stays : {refusal : Refusal} → skip_answer w n ≡ Err refusal → skip_store w n ≡ w
    unfolding skip_store
    skip_stays e = rw (e, skip_store)

    module _ {slots : ℕ} (e : skip_answer w n ≡ Ok slots) where
      pub skip_clock : skip_store w n ≡ with_clock w (clock_of w + slots)
      unfolding skip_store
      skip_clock = rw (e, skip_store)

      pub skip_holds : AllHold (wait_checks w)
      unfolding skip_answer
      skip_holds = accepted_all Err (wait_checks w) _ _ (λ m s. absurd cc) e

      pub skip_slots : slots ≡ skipped w n
      unfolding skip_answer
      skip_slots = cc (e, all_passed Err (wait_checks w) (Ok (skipped w n)) skip_holds)

    -- what it answers, from what `idle` does
    pub skip_refused : {refusal : Refusal} → idle_answer w ≡ Err refusal → skip_answer w n ≡ Err refusal
    unfolding idle_answer skip_answer
    skip_refused {refusal} e =
        refused_as {A = Result ℕ Refusal} Err Err (λ m n s. cc) (wait_checks w) _ _ refusal (λ s. absurd cc) e

  module _ {most : ℕ} (e : idle_answer w ≡ Ok most) where
    idle_holds : AllHold (wait_checks w)
    unfolding idle_answer
    idle_holds = accepted_all Err (wait_checks w) _ _ (λ m s. absurd cc) e

    idle_is : most ≡ idle_of w
    idle_is = cc (e, idle_slots idle_holds)

    sound : Sound w
    sound = sound_is w idle_holds.0

    pub idle_long : Long w
    idle_long = sound.long

    module _ (n : ℕ) where
      pub skip_some : skip_answer w n ≡ Ok (min n most)
      unfolding skip_answer
      skip_some = rw idle_is (all_passed Err (wait_checks w) (Ok (skipped w n)) idle_holds)

      pub skip_fits : clock_of w + min n most ≤ end_slot
      skip_fits = omega (arith, idle_is, idle_most w, sound.counts.clock_most)
