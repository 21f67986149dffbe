-- The lines of so many sends stand there.
use Rattle.script_listing.specs.Listing.{send_lines_in}
use Rattle.script_listing.proofs.Putting.{Putting}
use Rattle.script_listing.proofs.sends.Given as goal

abbrev pub invariant-loop-i : goal.invariant-loop-i
invariant-loop-i l = Putting l.fn.out l.at (send_lines_in l.numbers l.i) l.out l.end
