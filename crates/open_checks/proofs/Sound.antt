-- A store that was found sound, and what it lets the code read.
use Prim.Native.Nat.{ℕ, ◌≤◌, ◌<◌}
use mathlib.Core.Path.{◌≡◌, refl}
use mathlib.Core.Bool.{Bool, true, false}
use mathlib.Core.List.{List}
use native.Mathlib.Omega.{arith}
use borrow.Author.Tests.{ltb-true}
use Rattle.std.specs.Prelude.{if◌then◌else◌}
use Rattle.std.specs.declared.option.Option.TheVariants.{None, Some}
use Rattle.kinds.specs.Ranges.{most_links}
use Rattle.store.specs.Layout.{Store, Long, number_at, links_of}
use Rattle.store.specs.Sound.{sound_of}
use Rattle.store.specs.Route.{along, exists, Known}
use Rattle.folds.specs.Folds.{every}
use Rattle.folds.proofs.Folds.{every_at}
use Rattle.store.proofs.Laws.Sound.{sound_is}
use Rattle.store_route.proofs.Laws.{link_bound}

-- what `sound::check` answers
found : (t : Bool) (w v : Store) → Some v ≡ (if t then Some w else None) → (t ≡ true) × (v ≡ w)
found true w v e = (refl, cc)
found false w v e = absurd (let z : ◌≡◌ {A = ℕ} 0 1 = cc in omega arith)

module _ (w v : Store) (e : Some v ≡ (if sound_of w then Some w else None)) where
  pub found_sound : sound_of w ≡ true
  found_sound = (found (sound_of w) w v e).0

  pub same_store : v ≡ w
  same_store = (found (sound_of w) w v e).1

module _ (w : Store) (e : sound_of w ≡ true) where
  pub sound_long : Long w
  sound_long = (sound_is w e).long

  pub sound_few : links_of w ≤ most_links
  sound_few = (sound_is w e).counts.links_most

  pub known_links : (route : ℕ → ℕ) (n : ℕ) → every (exists w route) n ≡ true → Known route n
  known_links route n h = link_bound w route n sound_few h

-- a link of a lent route
pub link_there : (w : Store) (route : List ℕ) (n : ℕ) → every (exists w (along route)) n ≡ true → (j : ℕ) → j < n
    → number_at route j < links_of w
link_there w route n e j h = ltb-true _ _ (every_at (exists w (along route)) n e j h)
