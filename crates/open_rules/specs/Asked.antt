-- A request that has passed check 1, as the code carries it: the value that `Channel::new` gave, and the route.
use Rattle.std.specs.Prelude.{ℕ, List}
use Rattle.kinds.specs.declared.Channel.{Channel}
use Rattle.open_rules.specs.Request.{Request}

abbrev pub asking : Channel → (route : List ℕ) → Request
asking a route = record { c = a.c; p = a.p; d = a.d; b = a.b; route = route }
