-- Tables that pass the response-time test. A table is a list of rows (C, p, delay), highest priority first.
use Rattle.std.specs.Prelude.{ℕ, ◌≤◌, List, [], ◌∷◌}
use Rattle.schedule.specs.Lists.{Every}
use Rattle.response.specs.declared.Row.{Row}
use Rattle.response.specs.Need.{need}

-- no two messages of the row have one logical time
abbrev pub Apart : Row → Type 0
Apart x = 1 ≤ x.p

-- a constrained deadline: a message is due before the row's next one may come
abbrev pub Constrained : Row → Type 0
Constrained x = x.delay ≤ x.p

-- The response-time test for one row: some r slots, no more than its delay, are enough for one message of it and for all
-- that the rows above can ask for meanwhile.
pub record Fits (x : Row) (above : List Row) : Type 0 where
  pub r : ℕ
  pub positive : 1 ≤ r
  pub within : r ≤ x.delay
  pub enough : need x.c above r ≤ r

-- each of the rows fits below those before it and the rows `above`; the order within `above` is of no account
abbrev pub FeasibleUnder : List Row → List Row → Type 0
FeasibleUnder above [] = Unit {0}
FeasibleUnder above (x ∷ rows) = Fits x above × FeasibleUnder (x ∷ above) rows

-- the table passes the test
abbrev pub Feasible : List Row → Type 0
Feasible = FeasibleUnder []

-- what every table of a link has: C is at least 1, deadlines are constrained, and it passes the test
pub record Table (rows : List Row) : Type 0 where
  pub packets : Every (λ x. 1 ≤ x.c) rows
  pub constrained : Every Constrained rows
  pub feasible : Feasible rows

-- delays never fall on the way down
abbrev pub Sorted : List Row → Type 0
Sorted [] = Unit {0}
Sorted (x ∷ rows) = Every (λ y. x.delay ≤ y.delay) rows × Sorted rows
