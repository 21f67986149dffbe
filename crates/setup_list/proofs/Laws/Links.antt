-- When a link of the list passes, as facts about its numbers.
use Prim.Native.Nat.{ℕ, zero, suc, ◌+◌, ◌*◌, ◌≤◌, ◌<◌}
use mathlib.Core.Path.{◌≡◌, refl}
use mathlib.Core.Bool.{true, and-eq-true_iff}
use mathlib.Core.List.{List}
use native.Mathlib.Omega.{arith}
use lib.ListN.{length}
use lib.Dec.{leb}
use borrow.Author.Tests.{le-leb, leb-true}
use Rattle.kinds.specs.Checks.{link_passes}
use Rattle.folds.proofs.Folds.{every_at}
use Rattle.setup_list.specs.List.{from_in, to_in, horizon_in, buffer_in, links_in, link_passes_at, links_pass}

-- a link that passes stands whole in the numbers, and they are in range; and the other way round
module _ (numbers : List ℕ) (l : ℕ) where
  pub whole_at : link_passes_at numbers l ≡ true → 4 * l + 4 ≤ length numbers
  unfolding link_passes_at
  whole_at e = leb-true _ _ ((and-eq-true_iff (leb (4 * l + 4) (length numbers)) _).0 e).0

  pub passes_at : link_passes_at numbers l ≡ true
      → link_passes (from_in numbers l) (to_in numbers l) (horizon_in numbers l) (buffer_in numbers l) ≡ true
  unfolding link_passes_at
  passes_at e = ((and-eq-true_iff (leb (4 * l + 4) (length numbers)) _).0 e).1

  pub at_passes : 4 * l + 4 ≤ length numbers
      → link_passes (from_in numbers l) (to_in numbers l) (horizon_in numbers l) (buffer_in numbers l) ≡ true
      → link_passes_at numbers l ≡ true
  unfolding link_passes_at
  at_passes h p = rw (le-leb _ _ h) p

-- links that all pass end with a whole one
pub pass_whole : (numbers : List ℕ) → links_pass numbers ≡ true → 4 * links_in numbers ≡ length numbers
pass_whole numbers e = go (links_in numbers) refl
  where
    go : (n : ℕ) → links_in numbers ≡ n → 4 * links_in numbers ≡ length numbers
    go zero h = omega arith
    go (suc n) h =
        let l : n < links_in numbers = omega arith in
        omega (arith, whole_at numbers n (every_at (link_passes_at numbers) (links_in numbers) e n l))
