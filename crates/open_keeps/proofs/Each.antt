-- After an accepted open: what to show of each link, by whether it is on the route, and of each channel, by whether it is new.
use Prim.Native.Nat.{ℕ, ◌<◌}
use mathlib.Core.Path.{subst}
use mathlib.Core.Logic.{⊎_elim}
use native.Mathlib.Omega.{arith}
use Rattle.store.specs.Layout.{Store, links_of, channels_of, IsChannel}
use Rattle.folds.proofs.Folds.{below}
use Rattle.open_rules.specs.Request.{Request, hops, link}
use Rattle.open_keeps.proofs.Place.{Away, place_of}
use Rattle.open_keeps.proofs.Kept.{Opened, links_kept}

module _ {w w' : Store} {q : Request} {d : ℕ → ℕ} (o : Opened w w' q d) where
  pub each_link : (P : ℕ → Type 0) → ((j : ℕ) → j < hops q → P (link q j))
      → ((l : ℕ) → l < links_of w → Away (link q) (hops q) l → P l) → (l : ℕ) → l < links_of w' → P l
  each_link P on away l h =
      ⊎_elim (λ s. subst P s.here (on s.at s.inside))
      (away l (rw (links_kept o) at h))
      (place_of (link q) (hops q) l)

  pub each_channel : (P : ℕ → Type 0) → ((x : ℕ) → IsChannel w x → P x) → P (channels_of w)
      → (x : ℕ) → IsChannel w' x → P x
  each_channel P old new x h =
      below x (channels_of w) (omega (arith, o.after.channels)) (old x) (λ e. rw e new)
