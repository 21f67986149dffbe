-- The shares of so many links stand there.
use Rattle.script_listing.specs.Listing.{shares_to}
use Rattle.script_listing.proofs.Putting.{Putting}
use Rattle.script_listing.proofs.put_shares.Given as goal

abbrev pub invariant-loop-j : goal.invariant-loop-j
invariant-loop-j l = Putting l.fn.out l.at (shares_to l.responses l.delays l.reserved l.j) l.out l.end
