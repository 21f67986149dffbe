-- What the answer to an open says, for the crates above.
use Prim.Native.Nat.{ℕ, ◌+◌, ◌<◌}
use mathlib.Core.Path.{◌≡◌, refl, sym, ◌∙◌, ap}
use mathlib.Core.Bool.{true}
use mathlib.Core.List.{List}
use native.Mathlib.Omega.{arith}
use lib.ListN.{take, drop}
use Rattle.store.specs.Layout.{Store, number_at, channels_of, with_channels}
use Rattle.store.specs.Sound.{sound_of}
use Rattle.checks.proofs.Laws.{AllHold, failed_append, all_passed, accepted_all, hold_append, clear_other, clear_passed}
use Rattle.kinds.specs.declared.Refusal.TheVariants.{NotSound}
use Rattle.std.specs.declared.result.Result.TheVariants.{Ok, Err}
use Rattle.open_rules.specs.Request.{Request, hops}
use Rattle.open_rules.specs.Shares.{eight}
use Rattle.open_rules.specs.Join.{channel_written, rows_joined}
use Rattle.open_rules.specs.Refusal.{early_checks, late_checks, delays_of, opened}
use Rattle.open_rules.specs.Open.{open_outcome, open_answer, open_store}
use Rattle.open_rules.proofs.Laws.Outcome.{refused_accepted, refused_same}
use Rattle.open_rules.proofs.Laws.Facts.{Early, Late, After}
use Rattle.open_rules.proofs.Laws.Passed.{early_is, late_is}
use Rattle.open_rules.proofs.Laws.Delays.{delay_least, delay_within}
use Rattle.open_rules.proofs.Laws.Eight.{eight_at}
use Rattle.open_rules.proofs.Laws.Written.{channel_same}
use Rattle.open_rules.proofs.Laws.Join.{opened_after}
use Rattle.open_keeps.proofs.Sound.{open_sound}
use Rattle.open.proofs.Outcome.{answer_accepted, store_accepted, all_accepted}

module _ (w : Store) (q : Request) where
  -- Where the other checks hold, the store after the open is sound: the last check need not be looked at.
  module _ (early : AllHold (early_checks w q)) (late : AllHold (take 3 (late_checks w q))) where
    facts : Early w q
    facts = early_is w q early

    found : Late w q
    found = late_is w q late

    sound_after : sound_of (opened w q) ≡ true
    sound_after =
        open_sound w (opened w q) q (delays_of w q) facts (opened_after w q facts)
        (delay_least w q facts found.responds)
        (delay_within w q facts found.responds)
        found.fits

    pub all_late : AllHold (late_checks w q)
    all_late = (late.0, (late.1.0, (late.1.1.0, (sound_after, tt))))

  -- "On a store reached from set-up the other calls never give 17": an open gives it only on a store that is not sound.
  pub never_17 : sound_of w ≡ true → open_outcome w q ≡ Err NotSound → ⊥
  unfolding open_outcome
  never_17 s e =
      let x = channels_of w in
      let first = clear_passed Err refused_same NotSound (early_checks w q) _
      ((λ _. s), clear_other NotSound (drop 1 (early_checks w q)) refl)
      (sym (failed_append Err (early_checks w q) (late_checks w q) (Ok x)) ∙ e) in
      let second = clear_passed Err refused_same NotSound (take 3 (late_checks w q)) _
      (clear_other NotSound (take 3 (late_checks w q)) refl)
      (sym (failed_append Err (take 3 (late_checks w q)) (drop 3 (late_checks w q)) (Ok x)) ∙ first.1) in
      let passed = all_passed Err (drop 3 (late_checks w q)) (Ok x) (all_late first.0 second.0).1.1.1 in
      let z : ◌≡◌ {A = ℕ} 0 1 = cc (passed, second.1) in
      omega arith

  -- What an accepted open stands on, and the store that it leaves.
  module _ (x : ℕ) (a : open_outcome w q ≡ Ok x) where
    holds : AllHold (early_checks w q) × AllHold (late_checks w q)
    unfolding open_outcome
    holds = hold_append (early_checks w q) (late_checks w q) (accepted_all Err _ _ _ (refused_accepted x) a)

    -- "numbered from 0 as opened"
    pub accepted_number : x ≡ channels_of w
    accepted_number = cc (a, all_accepted w q holds.0 holds.1)

    pub accepted_early : Early w q
    accepted_early = early_is w q holds.0

    pub accepted_late : Late w q
    accepted_late = late_is w q (holds.1.0, (holds.1.1.0, (holds.1.1.1.0, tt)))

    pub accepted_after : After w (open_store w q) (channels_of w) q (delays_of w q)
    accepted_after = rw (sym (store_accepted w q a)) (opened_after w q accepted_early)

    pub accepted_sound : sound_of (open_store w q) ≡ true
    accepted_sound = rw (sym (store_accepted w q a)) holds.1.1.1.1.0

    -- what is written with the delays of the answer
    pub accepted_written : (delays : List ℕ) → delays ≡ (open_answer w q).delays
        → with_channels (rows_joined (channel_written w x q (number_at delays)) x (hops q)) (x + 1) ≡ open_store w q
    unfolding opened
    accepted_written delays same =
        let are : delays ≡ eight (delays_of w q) (hops q) = same ∙ ap (λ o. o.delays) (sym (answer_accepted w q a)) in
        let at : (j : ℕ) → j < hops q → number_at delays j ≡ delays_of w q j =
        λ j h. rw are (eight_at (delays_of w q) (hops q) j h accepted_early.hops_most) in
        rw (accepted_number, channel_same w (channels_of w) q (number_at delays) (delays_of w q) at) (store_accepted w q a)
