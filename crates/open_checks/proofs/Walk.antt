-- The checks of an open that hold, one after the other, as `early` comes past them.
use Prim.Native.Nat.{ℕ, ◌<◌}
use mathlib.Core.Path.{◌≡◌, refl, sym}
use mathlib.Core.List.{List}
use lib.ListN.{take}
use borrow.Author.Tests.{lt-ltb}
use Rattle.std.specs.Prelude.{if◌then◌else◌}
use Rattle.std.specs.declared.option.Option.TheVariants.{None, Some}
use Rattle.std.specs.declared.result.Result.TheVariants.{Ok}
use Rattle.kinds.specs.Ranges.{end_slot, most_channels}
use Rattle.kinds.specs.Checks.{new_channel, new_route}
use Rattle.kinds.specs.declared.Channel.{Channel}
use Rattle.kinds.specs.declared.Route.{Route}
use Rattle.kinds.proofs.Laws.{good_channel, good_route}
use Rattle.store.specs.Layout.{Store, clock_of, channels_of}
use Rattle.store.specs.Sound.{sound_of}
use Rattle.store.specs.Route.{exists, is_new, joins}
use Rattle.folds.specs.Folds.{failing}
use Rattle.folds.proofs.Chains.{failing_none}
use Rattle.checks.specs.Checks.{Check}
use Rattle.checks.proofs.Laws.{AllHold, one_more}
use Rattle.open_rules.specs.Request.{Request, hops, link}
use Rattle.open_rules.specs.Refusal.{early_checks, takes_row}
use Rattle.open_checks.proofs.Sound.{found_sound, same_store}

abbrev pub request : (c p d b : ℕ) → List ℕ → Request
request c p d b route = record { c = c; p = p; d = d; b = b; route = route }

module _ (w : Store) (q : Request) where
  abbrev pub checks : List Check
  checks = early_checks w q

  pub past_2 : {v : Store} {a : Channel} {r : Route} → Some v ≡ (if sound_of w then Some w else None) → clock_of v < end_slot → Ok a ≡ new_channel q.c q.p q.d q.b
      → Ok r ≡ new_route (hops q) → AllHold (take 4 checks)
  past_2 {v} s k a r = (found_sound w v s, (lt-ltb _ _ (rw (same_store w v s) at k), (good_channel _ _ _ _ (sym a), (good_route _ (sym r), tt))))

  pub past_3 : AllHold (take 4 checks) → None ≡ failing (exists w (link q)) (hops q) → AllHold (take 5 checks)
  past_3 h e = one_more checks 4 refl h (failing_none _ _ (sym e))

  pub past_4 : AllHold (take 5 checks) → None ≡ failing (is_new (link q)) (hops q) → AllHold (take 6 checks)
  past_4 h e = one_more checks 5 refl h (failing_none _ _ (sym e))

  pub past_5 : AllHold (take 6 checks) → None ≡ failing (joins w (link q)) (hops q) → AllHold (take 7 checks)
  past_5 h e = one_more checks 6 refl h (failing_none _ _ (sym e))

  pub past_6 : AllHold (take 7 checks) → channels_of w < most_channels → AllHold (take 8 checks)
  past_6 h c = one_more checks 7 refl h (lt-ltb _ _ c)

  pub past_7 : AllHold (take 8 checks) → None ≡ failing (takes_row w (link q)) (hops q) → AllHold checks
  past_7 h e = one_more checks 8 refl h (failing_none _ _ (sym e))
