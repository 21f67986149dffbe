-- Document 01's checks 3, 4 and 5 of a route, each at one place of it. The route is given by the link number at each place,
-- so that one definition serves a route that is asked for and one that is stored.
use Rattle.std.specs.Prelude.{ℕ, zero, suc, ◌<◌, Bool, true, ◌&&◌, not, List, eqb, ltb}
use Rattle.kinds.specs.Ranges.{most_links}
use Rattle.store.specs.Layout.{Store, number_at, links_of, from_of, to_of}
use Rattle.folds.specs.Folds.{every}

-- the link at place j of a route
abbrev pub along : (route : List ℕ) → (j : ℕ) → ℕ
along route j = number_at route j

-- 3, "a link number does not exist"
abbrev pub exists : Store → (route : ℕ → ℕ) → ℕ → Bool
exists w route j = ltb (route j) (links_of w)

-- what a reader of links may rely on once 3 has passed: each number is that of a record in the store
abbrev pub Known : (route : ℕ → ℕ) → (n : ℕ) → Type 0
Known route n = (j : ℕ) → j < n → route j < most_links

-- 4, "a link stands twice": here is no link that stands before
abbrev pub differs : (route : ℕ → ℕ) → (j i : ℕ) → Bool
differs route j i = not (eqb (route i) (route j))

abbrev pub is_new : (route : ℕ → ℕ) → ℕ → Bool
is_new route j = every (differs route j) j

-- 5, "a link does not start at the node where the one before ends"
unfoldable pub joins : Store → (route : ℕ → ℕ) → ℕ → Bool
joins w route zero = true
joins w route (suc j) = eqb (from_of w (route (suc j))) (to_of w (route j))

-- a route of n links passes 3, 4 and 5
abbrev pub route_passes : Store → (route : ℕ → ℕ) → (n : ℕ) → Bool
route_passes w route n = every (exists w route) n && (every (is_new route) n && every (joins w route) n)
