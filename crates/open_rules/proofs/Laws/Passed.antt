-- The checks of an open: what holds where they are passed.
use mathlib.Core.Path.{◌≡◌}
use mathlib.Core.Bool.{true}
use lib.ListN.{take}
use borrow.Author.Tests.{leb-true, ltb-true}
use Rattle.kinds.specs.Ranges.{most_hops}
use Rattle.kinds.proofs.Laws.{within_true, channel_bounds}
use Rattle.folds.specs.Folds.{every}
use Rattle.store.specs.Layout.{Store}
use Rattle.folds.proofs.Folds.{every_at}
use Rattle.store.proofs.Laws.Sound.{both, route_is}
use Rattle.checks.proofs.Laws.{AllHold}
use Rattle.open_rules.specs.Request.{Request, hops, link}
use Rattle.open_rules.specs.Search.{responds}
use Rattle.open_rules.specs.Shares.{fits_buffer}
use Rattle.open_rules.specs.Refusal.{takes_row, early_checks, late_checks, reserved_for}
use Rattle.open_rules.proofs.Laws.Facts.{Early, Responds, Late}
use Rattle.open_rules.proofs.Laws.Search.{found_response}

module _ (w : Store) (q : Request) where
  pub early_is : AllHold (early_checks w q) → Early w q
  early_is h =
      let route = h.1.1.1 in
      let places = route.1.1.1.1 in
      let n = within_true 1 most_hops (hops q) route.0 in
      record {
        sound = h.0;
        clock = ltb-true _ _ h.1.0;
        good = channel_bounds _ _ _ _ h.1.1.0;
        hops_least = n.0;
        hops_most = n.1;
        route = route_is w (link q) (hops q) (both _ _ route.1.0 (both _ _ route.1.1.0 route.1.1.1.0));
        channels = ltb-true _ _ places.0;
        room = λ j k. ltb-true _ _ (every_at (takes_row w (link q)) (hops q) places.1.0 j k);
      }

  pub responds_is : every (responds w q.c q.p (link q)) (hops q) ≡ true → Responds w q
  responds_is h j k = found_response _ _ _ (every_at (responds w q.c q.p (link q)) (hops q) h j k)

  pub late_is : AllHold (take 3 (late_checks w q)) → Late w q
  late_is h =
      record {
        responds = responds_is h.0;
        total = leb-true _ _ h.1.0;
        fits = λ j k. leb-true _ _ (every_at (fits_buffer w (link q) (reserved_for w q)) (hops q) h.1.1.0 j k);
      }
