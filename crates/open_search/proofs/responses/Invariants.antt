-- at each place passed the new channel has a response, and on one link every row passed has one below the new channel
use Rattle.open_search.proofs.Steps.{Searching, Placing}
use Rattle.open_search.proofs.responses.Given as goal

abbrev pub invariant-loop-q : goal.invariant-loop-q
invariant-loop-q l = Placing l.store l.asked.c l.asked.p l.route l.found l.table l.silent l.j l.q

abbrev pub decreases-loop-q : goal.decreases-loop-q
decreases-loop-q l = l.q

abbrev pub invariant-search : goal.invariant-search
invariant-search l = Searching l.store l.asked.c l.asked.p l.route l.found l.table l.silent l.j
