-- What the code may rely on once a route's links are known to exist.
use Prim.Native.Nat.{ℕ, ◌≤◌, ◌<◌}
use mathlib.Core.Path.{◌≡◌}
use mathlib.Core.Bool.{true}
use native.Mathlib.Omega.{arith}
use Rattle.kinds.specs.Ranges.{most_links}
use borrow.Author.Tests.{ltb-true}
use Rattle.store.specs.Layout.{Store, links_of}
use Rattle.folds.specs.Folds.{every}
use Rattle.store.specs.Route.{exists}
use Rattle.folds.proofs.Folds.{every_at}

-- links that exist are among the most there can be
pub link_bound : (w : Store) (route : ℕ → ℕ) (n : ℕ) → links_of w ≤ most_links → every (exists w route) n ≡ true
    → (i : ℕ) → i < n → route i < most_links
link_bound w route n m e i h = omega (arith, ltb-true (route i) (links_of w) (every_at (exists w route) n e i h))
