-- What an open asks for.
use Rattle.std.specs.Prelude.{ℕ, List, length}
use Rattle.store.specs.Route.{along}

-- "`open` C, p, D, B, route"
pub record Request : Type 0 where
  pub c : ℕ
  pub p : ℕ
  pub d : ℕ
  pub b : ℕ
  pub route : List ℕ

-- how many links the route has, and the link at place j
abbrev pub hops : Request → ℕ
hops q = length q.route

abbrev pub link : Request → (j : ℕ) → ℕ
link q = along q.route
