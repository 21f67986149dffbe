-- A request that has passed the checks before the search, as the code carries it on.
use Rattle.std.specs.Prelude.{◌≡◌, List, ℕ, length}
use Rattle.std.specs.declared.result.Result.TheVariants.{Ok, Err}
use Rattle.store.specs.Layout.{Store, channels_of}
use Rattle.checks.specs.Checks.{first_failed}
use Rattle.open_rules.specs.Asked.{asking}
use Rattle.open_rules.specs.Refusal.{early_checks}
use Rattle.open_checks.specs.declared.Passed.{Passed as CheckedRequest}

-- none of 17, 14 and 1 to 7 has refused it; p has the number that its channel will have, and the length of its route
pub record Passed (w : Store) (p : CheckedRequest) (route : List ℕ) : Type 0 where
  pub early : first_failed Err (early_checks w (asking p.asked route)) (Ok p.channel) ≡ Ok p.channel
  pub number : p.channel ≡ channels_of w
  pub hops_are : p.way.hops ≡ length route
