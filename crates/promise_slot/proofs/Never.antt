-- "On a store reached from set-up the other calls never give 17": a slot gives it only on a store that is not sound, since it
-- leaves one that is.
use Prim.Native.Nat.{ℕ, ◌<◌}
use mathlib.Core.Path.{◌≡◌, refl, sym, ◌∙◌}
use native.Mathlib.Omega.{arith}
use lib.ListN.{take, drop}
use borrow.Author.Tests.{ltb-true}
use Rattle.std.specs.declared.result.Result.{Result}
use Rattle.std.specs.declared.result.Result.TheVariants.{Ok, Err}
use Rattle.kinds.specs.declared.Refusal.{Refusal}
use Rattle.kinds.specs.declared.Refusal.TheVariants.{NotSound}
use Rattle.kinds.specs.Ranges.{end_slot}
use Rattle.store.specs.Layout.{Store, clock_of}
use Rattle.store.proofs.Laws.Sound.{is_sound}
use Rattle.checks.proofs.Laws.{failed_append, all_passed, clear_other, clear_passed}
use Rattle.slot_rules.specs.Slot.{moved, slot_checks, slot_turn}
use Rattle.promise_view.specs.View.{Accepted}
use Rattle.promise_view.proofs.Seen.{Seen, Steady, Near}
use Rattle.promise_slot.proofs.Sound.{sound_after}

refused_same : (m n : Refusal) → ◌≡◌ {A = Result (Unit {0}) Refusal} (Err m) (Err n) → m ≡ n
refused_same m n e = cc e

pub never_17 : {w : Store} {all : Accepted} → Seen w all → Steady w all → Near w all → (size : ℕ)
    → slot_turn w size ≡ Err NotSound → ⊥
unfolding slot_turn
never_17 {w} s on near size e =
    let checks = slot_checks w size in
    let front = clear_passed Err refused_same NotSound (take 3 checks) _
    ((λ _. is_sound w s.sound), clear_other NotSound (drop 1 (take 3 checks)) refl)
    (sym (failed_append Err (take 3 checks) (drop 3 checks) (Ok (tt {0}))) ∙ e) in
    let clock : clock_of w < end_slot = ltb-true (clock_of w) end_slot front.0.1.0 in
    let passed = all_passed Err (drop 3 checks) (Ok (tt {0})) (is_sound (moved w) (sound_after s on near clock), tt) in
    let z : ◌≡◌ {A = ℕ} 0 1 = cc (passed, front.1) in
    omega arith
