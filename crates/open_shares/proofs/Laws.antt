-- What an open hands to this crate is in the ranges asked for. `numbers` are those of the open at each place of its route.
use Prim.Native.Nat.{ℕ, ◌<◌}
use mathlib.Core.Path.{◌≡◌}
use mathlib.Core.List.{List}
use native.Mathlib.Nat.{le_trans}
use native.Mathlib.Omega.{arith}
use Rattle.store.specs.Ranged.{most_reserved}
use Rattle.kinds.specs.Ranges.{most_p}
use Rattle.store.specs.Layout.{Store, number_at}
use Rattle.store.proofs.Laws.Sound.{sound_is}
use Rattle.open_rules.specs.Request.{Request, hops, link}
use Rattle.open_rules.specs.Refusal.{responses_of, delays_of, reserved_for}
use Rattle.open_rules.proofs.Laws.Facts.{Early, Responds}
use Rattle.open_rules.proofs.Laws.Delays.{response_most, delay_least, delay_within, reserved_most}
use Rattle.open_shares.specs.Ranges.{AllUpTo, Places}

module _ (w : Store) (q : Request) (e : Early w q) (numbers : List ℕ) where
  pub reserved_ranged : ((j : ℕ) → j < hops q → number_at numbers j ≡ reserved_for w q j) → AllUpTo numbers (hops q) most_reserved
  reserved_ranged same j h = rw (same j h) (reserved_most w q e j h)

  module _ (f : Responds w q) where
    pub responses_ranged : ((j : ℕ) → j < hops q → number_at numbers j ≡ responses_of w q j) → AllUpTo numbers (hops q) most_p
    responses_ranged same j h = rw (same j h) (le_trans (response_most w q e f j h) e.good.p_most)

    pub delays_placed : ((j : ℕ) → j < hops q → number_at numbers j ≡ delays_of w q j) → Places w q.p q.route numbers
    delays_placed same =
        let s = sound_is w e.sound in
        record {
          hops_most = e.hops_most;
          p_least = e.good.p_least;
          p_most = e.good.p_most;
          known = λ j h. omega (arith, e.route.known j h, s.counts.links_most);
          horizon_most = λ j h. (s.link (link q j) (e.route.known j h)).good.horizon_most;
          delay_least = λ j h. rw (same j h) (delay_least w q e f j h);
          delay_most = λ j h. rw (same j h) (delay_within w q e f j h);
        }
