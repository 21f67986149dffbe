-- What the checks before give to the messages: the delays of a route are small. And a stored route as a slice of the store.
use Rattle.std.proofs.Common.{◌≡◌, ◌≤◌, ◌<◌, ℕ, zero, suc, true, refl, List, length, take, drop, arith, tests}
use mathlib.Core.Path.{◌∙◌}
use mathlib.Core.Bool.{and-eq-true_iff}
use lib.Seq.{get_or-take, get_or-drop}
use Rattle.kinds.specs.Ranges.{most_c, most_p, most_hops, in_range_hops}
use Rattle.kinds.specs.Checks.{channel_passes}
use Rattle.kinds.proofs.Laws.{within_true, channel_bounds}
use Rattle.store.specs.Layout.{Store, route_start, route_of, c_of, p_of, d_of, b_of, hops_of, delay_of}
use Rattle.folds.specs.Folds.{every}
use Rattle.store.specs.Sound.{channel_fits, place_fits}
use Rattle.folds.proofs.Folds.{every_at, every_same}
use Rattle.store.specs.Route.{along, exists, differs, is_new, joins, route_passes}

-- What checks 1 and 2 give to the parts that come after them.
pub record Sized (w : Store) (x : ℕ) : Type 0 where
  pub packets : c_of w x ≤ most_c
  pub apart : p_of w x ≤ most_p
  pub least : 1 ≤ hops_of w x
  pub most : hops_of w x ≤ most_hops

pub sized : (w : Store) (x : ℕ) → channel_fits w x ≡ true → Sized w x
sized w x e =
    let one = (and-eq-true_iff (channel_passes (c_of w x) (p_of w x) (d_of w x) (b_of w x)) _).0 e in
    let two = (and-eq-true_iff (in_range_hops (hops_of w x)) _).0 one.1 in
    let h = within_true 1 most_hops (hops_of w x) two.0 in
    let good = channel_bounds (c_of w x) (p_of w x) (d_of w x) (b_of w x) one.0 in
    record { packets = good.c_most; apart = good.p_most; least = h.0; most = h.1 }

pub small_delay : (w : Store) (x i : ℕ) → channel_fits w x ≡ true → every (place_fits w x) (hops_of w x) ≡ true → i < hops_of w x
    → delay_of w x i ≤ most_p
small_delay w x i e f h = grind (arith, tests, every_at (place_fits w x) (hops_of w x) f i h)

-- A route is judged by the links that it names.
module _ (w : Store) (r s : ℕ → ℕ) (n : ℕ) (same : (j : ℕ) → j < n → r j ≡ s j) where
  exists_same : (j : ℕ) → j < n → exists w r j ≡ exists w s j
  exists_same j h = rw (same j h)

  new_same : (j : ℕ) → j < n → is_new r j ≡ is_new s j
  new_same j h = every_same (differs r j) (differs s j) j (λ i k. rw (same i (omega arith), same j h))

  joins_same : (j : ℕ) → j < n → joins w r j ≡ joins w s j
  unfolding joins
  joins_same zero h = refl
  joins_same (suc j) h = rw (same (suc j) h, same j (omega arith))

  pub route_same : route_passes w r n ≡ route_passes w s n
  route_same = rw (
    every_same (exists w r) (exists w s) n exists_same,
    every_same (is_new r) (is_new s) n new_same,
    every_same (joins w r) (joins w s) n joins_same,
  )

-- a stored route as a slice of what was read of the store
pub stored_route : (w : Store) (x n : ℕ) → n ≤ most_hops
    → route_passes w (along (take n (take most_hops (drop (route_start x) w)))) n ≡ route_passes w (route_of w x) n
stored_route w x n h =
    route_same w _ _ n (λ j k. get_or-take n (take most_hops (drop (route_start x) w)) j 0 k
    ∙ get_or-take most_hops (drop (route_start x) w) j 0 (omega arith) ∙ get_or-drop (route_start x) w j 0)

-- as it was read
pub route_read : (w : Store) (x n : ℕ) {s : Store} {r : List ℕ} → n ≤ most_hops → s ≡ w
    → r ≡ take most_hops (drop (route_start x) w) → length (take n r) ≡ n
    → route_passes s (along (take n r)) (length (take n r)) ≡ route_passes w (route_of w x) n
route_read w x n {s} {r} h e f g = rw (g, e, f) (stored_route w x n h)
