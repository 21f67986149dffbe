-- The ring of a channel's last messages: a walk back from place to place meets the messages in turn.
use Prim.Native.Nat.{ℕ, zero, suc, ◌+◌, ◌-◌, ◌%◌, ◌<◌}
use mathlib.Core.Path.{◌≡◌, refl}
use native.Mathlib.Omega.{arith}
use Rattle.store.specs.Layout.{Store, ring, time_of, end_of, place_before}

-- the place before, by whether the place is the first
pub before_first : (at : ℕ) → at ≡ 0 → place_before at ≡ ring - 1
unfolding place_before
before_first zero e = refl
before_first (suc at) e = absurd (omega arith)

pub before_later : (at : ℕ) → (at ≡ 0 → ⊥) → place_before at ≡ at - 1
unfolding place_before
before_later zero h = absurd (h refl)
before_later (suc at) h = omega arith

-- and back again
pub ring_after : (at b : ℕ) → at < ring → b ≡ place_before at → at ≡ (b + 1) % ring
unfolding place_before
ring_after zero b h e = omega arith
ring_after (suc at) b h e = omega arith

-- message n stands at place `at`: by its place it is read as by its number, and so is the one after it
module _ (n at : ℕ) (e : at ≡ n % ring) where
  pub ring_inside : at < ring
  ring_inside = omega arith

  pub ring_same : at % ring ≡ n % ring
  ring_same = omega arith

  pub ring_next : (at + 1) % ring ≡ (n + 1) % ring
  ring_next = omega arith

  pub ring_time : (w : Store) (x : ℕ) → time_of w x at ≡ time_of w x n
  ring_time w x = rw ring_same

  pub ring_end : (w : Store) (x : ℕ) → end_of w x at ≡ end_of w x n
  ring_end w x = rw ring_same

-- the message before it stands at the place before
pub ring_back : (n at : ℕ) → at ≡ n % ring → (n ≡ 0 → ⊥) → place_before at ≡ (n - 1) % ring
unfolding place_before
ring_back n zero e h = omega (arith, h)
ring_back n (suc at) e h = omega arith
