-- each turn is one trial, and the answer is what is left to try
use Rattle.std.proofs.Common.{◌+◌, ◌-◌}
use Rattle.response.specs.Need.{need, start}
use Rattle.response.specs.Numbers.{rows_in}
use Rattle.response.proofs.Laws.Trials.{Trying}
use Rattle.response.proofs.response_under.Given as goal

abbrev pub invariant-loop-r : goal.invariant-loop-r
invariant-loop-r l = Trying (need l.own (rows_in l.table)) l.limit (start l.own (rows_in l.table)) l.r l.trials

abbrev pub decreases-loop-r : goal.decreases-loop-r
decreases-loop-r l = l.limit + 1 - l.r
