-- What an accepted open leaves as it was: the clock, the network, the old channels' records (numbers, messages and counters)
-- and the rows of every link that is not on the route.
use Prim.Native.Nat.{ℕ, ◌+◌, ◌≤◌, ◌<◌}
use mathlib.Core.Path.{◌≡◌}
use native.Mathlib.Omega.{arith}
use Rattle.kinds.specs.Ranges.{most_links}
use Rattle.store.specs.Layout.{Store, number_at, link_at, channel_at, channels_at, record_length, channels_of, links_of, clock_of, rows_at}
use Rattle.store.specs.Layout.{rows_end, links_at, clock_at, from_at, to_at, horizon_at, buffer_at, IsChannel}
use Rattle.store.proofs.Laws.Sound.{Sound, sound_is}
use Rattle.open_rules.specs.Request.{Request, hops, link}
use Rattle.open_rules.proofs.Laws.Facts.{Early, After}
use Rattle.open_keeps.proofs.Place.{Away}
use Rattle.store_same.proofs.Same.{SameNetwork, SameRecord, Keeps}

-- an open of the request q, with delay d j at place j, was accepted in w and left w'
pub record Opened (w w' : Store) (q : Request) (d : ℕ → ℕ) : Type 0 where
  pub early : Early w q
  pub after : After w w' (channels_of w) q d

module _ {w w' : Store} {q : Request} {d : ℕ → ℕ} (o : Opened w w' q d) where
  pub was_sound : Sound w
  was_sound = sound_is w o.early.sound

  pub links_few : links_of w ≤ most_links
  links_few = was_sound.counts.links_most

  pub route_few : (j : ℕ) → j < hops q → link q j < most_links
  route_few j h = omega (arith, links_few, o.early.route.known j h)

  -- below the new record only rows and the count of channels are written
  low_kept : (at : ℕ) → (at ≡ channels_at → ⊥) → at < channel_at (channels_of w)
      → ((j : ℕ) → j < hops q → rows_at (link q j) ≤ at → at < rows_end (link q j) → ⊥)
      → number_at w' at ≡ number_at w at
  low_kept at other low apart = o.after.frame at other (λ a b. omega arith) apart

  pub clock_kept : clock_of w' ≡ clock_of w
  clock_kept = low_kept clock_at (λ e. omega arith) (omega arith) (λ j h u y. omega arith)

  pub links_kept : links_of w' ≡ links_of w
  links_kept = low_kept links_at (λ e. omega arith) (omega arith) (λ j h u y. omega arith)

  pub link_kept : (l at : ℕ) → l < most_links → link_at l ≤ at → at < rows_at l → number_at w' at ≡ number_at w at
  link_kept l at h a b = low_kept at (λ e. omega arith) (omega arith) (λ j m u y. omega arith)

  pub away_kept : (l at : ℕ) → l < most_links → Away (link q) (hops q) l → link_at l ≤ at → at < link_at l + record_length
      → number_at w' at ≡ number_at w at
  away_kept l at h away a b =
      low_kept at (λ e. omega arith) (omega arith) (λ j m u y. let n : link q j ≡ l → ⊥ = away j m in omega arith)

  pub record_kept : (x : ℕ) → IsChannel w x → SameRecord w w' x
  record_kept x h = record {
    number = λ at a b. low_kept at (λ e. omega arith) (omega arith) (λ j m u y. omega (arith, route_few j m));
  }

  pub network_kept : SameNetwork w w'
  network_kept = record {
    links = links_kept;
    from = λ l h. link_kept l (from_at l) h (omega arith) (omega arith);
    to = λ l h. link_kept l (to_at l) h (omega arith) (omega arith);
    horizon = λ l h. link_kept l (horizon_at l) h (omega arith) (omega arith);
    buffer = λ l h. link_kept l (buffer_at l) h (omega arith) (omega arith);
  }

  pub open_keeps : Keeps w w'
  open_keeps = record { network = network_kept; more = omega (arith, o.after.channels); channel = record_kept }
