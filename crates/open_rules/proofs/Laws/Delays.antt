-- The delays that an open gives: on each link 1 ≤ r ≤ d ≤ p, and the sum of d is at most D.
use Prim.Native.Nat.{ℕ, zero, suc, ◌≤◌, ◌<◌}
use native.Mathlib.Nat.{le_trans}
use native.Mathlib.Omega.{arith}
use Rattle.store.specs.Ranged.{most_reserved}
use Rattle.kinds.specs.Ranges.{most_p}
use Rattle.response.specs.Need.{need}
use Rattle.response.specs.Right.{Least}
use Rattle.response.proofs.Laws.Trials.{found_least}
use Rattle.folds.specs.Folds.{sum_to}
use Rattle.store.specs.Layout.{Store, rows_of}
use Rattle.store.specs.Amounts.{reserved_along}
use Rattle.store.proofs.Laws.Amounts.{first_most, later_most}
use Rattle.store.proofs.Laws.Sound.{sound_is}
use Rattle.open_rules.specs.Request.{Request, hops, link}
use Rattle.open_rules.specs.Search.{rows_to, position, has_response}
use Rattle.open_rules.specs.Refusal.{responses_of, delays_of, reserved_for}
use Rattle.open_rules.proofs.Laws.Facts.{Early, Responds}
use Rattle.open_rules.proofs.Laws.Search.{smallest_is}
use Rattle.open_rules.proofs.Laws.Ranged.{ranged_spaced, rows_ranged}
use Rattle.open_rules.proofs.Laws.Shares as shares

module _ (w : Store) (q : Request) (e : Early w q) where
  delay_most : (j : ℕ) → delays_of w q j ≤ most_p
  delay_most j = le_trans (shares.delay_within q.p q.d (hops q) (responses_of w q) j) e.good.p_most

  -- what is reserved is bounded, whatever was found
  pub reserved_most : (j : ℕ) → j < hops q → reserved_for w q j ≤ most_reserved
  unfolding reserved_along
  reserved_most zero h = first_most _ e.good.c_most _ e.good.b_most
  reserved_most (suc j) h =
      let k = (sound_is w e.sound).link _ (e.route.known j (omega arith)) in
      later_most _ e.good.c_most q.p _ _ _ k.good.horizon_most (delay_most j) (delay_most (suc j))

  module _ (f : Responds w q) where
    response_is : (j : ℕ) → j < hops q
        → Least (need q.c (rows_to w (link q j) (position w q.c q.p (link q j)))) q.p (responses_of w q j)
    response_is j h =
        let l = link q j in
        let a = f j h in
        let inside = (smallest_is (has_response w q.c q.p l) (rows_of w l)).most in
        let ranged = rows_ranged w (sound_is w e.sound) l (e.route.known j h) (position w q.c q.p l) inside in
        rw a.found (found_least _ _ _ e.good.c_least (ranged_spaced _ ranged) a.length a.trials a.found)

    module _ (j : ℕ) (h : j < hops q) where
      pub response_least : 1 ≤ responses_of w q j
      response_least = (response_is j h).positive

      pub response_most : responses_of w q j ≤ q.p
      response_most = (response_is j h).within

      pub delay_covers : responses_of w q j ≤ delays_of w q j
      delay_covers = shares.delay_covers q.p q.d (hops q) (responses_of w q) j response_most

      pub delay_least : 1 ≤ delays_of w q j
      delay_least = shares.delay_least q.p q.d (hops q) (responses_of w q) j response_least response_most

      pub delay_within : delays_of w q j ≤ q.p
      delay_within = shares.delay_within q.p q.d (hops q) (responses_of w q) j

    pub total_least : 1 ≤ sum_to (responses_of w q) (hops q)
    total_least = shares.total_least (responses_of w q) (hops q) e.hops_least response_least

    pub delays_fit : sum_to (responses_of w q) (hops q) ≤ q.d → sum_to (delays_of w q) (hops q) ≤ q.d
    delays_fit h = shares.delays_fit q.p q.d (hops q) (responses_of w q) total_least h
