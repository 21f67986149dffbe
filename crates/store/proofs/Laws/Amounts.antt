-- A channel's amounts and a route's joins at place j, by whether j is the first place; and that what is reserved is bounded.
use Prim.Native.Nat.{ℕ, zero, suc, ◌+◌, ◌-◌, ◌*◌, ◌/◌, ◌≤◌, ◌<◌}
use mathlib.Core.Path.{◌≡◌, refl}
use mathlib.Core.Bool.{true}
use native.Mathlib.Nat.{mul-le-mul, div-le_self}
use native.Mathlib.Omega.{arith}
use lib.Dec.{eqb}
use Rattle.store.specs.Ranged.{most_reserved}
use Rattle.kinds.specs.Ranges.{most_horizon, most_c, most_p, most_b}
use Rattle.store.specs.Layout.{Store, b_of, c_of, p_of, route_of, delay_of, sent_of, horizon_of, from_of, to_of}
use Rattle.store.specs.Amounts.{later_reserved, reserved_along, reserved_of, accepted_of, entered_of}
use Rattle.store.specs.Route.{joins}

-- what is reserved is bounded
module _ (c : ℕ) (m : c ≤ most_c) where
  pub first_most : (b : ℕ) → b ≤ most_b → b * c ≤ most_reserved
  first_most b n = omega (arith, mul-le-mul n m)

  pub later_most : (p h d' d : ℕ) → h ≤ most_horizon → d' ≤ most_p → d ≤ most_p → later_reserved c p h d' d ≤ most_reserved
  later_most p h d' d u y z =
      let t : 1 + (h + d' + d - 2) / p ≤ 1 + (most_horizon + most_p + most_p) = omega (arith, div-le_self (h + d' + d - 2) p) in
      mul-le-mul m t

-- by whether the place is the first
module _ (w : Store) (c p b : ℕ) (route delays : ℕ → ℕ) where
  pub along_first : (j : ℕ) → j ≡ 0 → reserved_along w c p b route delays j ≡ b * c
  unfolding reserved_along
  along_first zero e = refl
  along_first (suc j) e = absurd (omega arith)

  pub along_later : (j : ℕ) → 0 < j
      → reserved_along w c p b route delays j ≡ later_reserved c p (horizon_of w (route (j - 1))) (delays (j - 1)) (delays j)
  unfolding reserved_along
  along_later zero h = absurd (omega arith)
  along_later (suc j) h =
      let e : suc j - 1 ≡ j = omega arith in
      simp e

module _ (w : Store) (x : ℕ) where
  pub reserved_first : (j : ℕ) → j ≡ 0 → reserved_of w x j ≡ b_of w x * c_of w x
  unfolding reserved_of
  reserved_first = along_first w (c_of w x) (p_of w x) (b_of w x) (route_of w x) (delay_of w x)

  pub reserved_later : (j : ℕ) → 0 < j
      → reserved_of w x j
      ≡ later_reserved (c_of w x) (p_of w x) (horizon_of w (route_of w x (j - 1))) (delay_of w x (j - 1)) (delay_of w x j)
  unfolding reserved_of
  reserved_later = along_later w (c_of w x) (p_of w x) (b_of w x) (route_of w x) (delay_of w x)

  pub entered_first : (j : ℕ) → j ≡ 0 → entered_of w x j ≡ accepted_of w x
  unfolding entered_of
  entered_first zero e = refl
  entered_first (suc j) e = absurd (omega arith)

  pub entered_later : (j : ℕ) → 0 < j → entered_of w x j ≡ sent_of w x (j - 1)
  unfolding entered_of
  entered_later zero h = absurd (omega arith)
  entered_later (suc j) h =
      let e : suc j - 1 ≡ j = omega arith in
      simp e

module _ (w : Store) (route : ℕ → ℕ) where
  pub joins_first : (j : ℕ) → j ≡ 0 → joins w route j ≡ true
  unfolding joins
  joins_first zero e = refl
  joins_first (suc j) e = absurd (omega arith)

  pub joins_later : (j : ℕ) → 0 < j → joins w route j ≡ eqb (from_of w (route j)) (to_of w (route (j - 1)))
  unfolding joins
  joins_later zero h = absurd (omega arith)
  joins_later (suc j) h =
      let e : suc j - 1 ≡ j = omega arith in
      simp e
