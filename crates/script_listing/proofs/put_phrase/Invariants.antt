-- Behind the word stand the numbers that were passed.
use Rattle.std.proofs.Common.{take}
use Rattle.script_line.specs.Phrase.{spaced}
use Rattle.script_listing.proofs.Putting.{Putting}
use Rattle.script_listing.proofs.put_phrase.Given as goal

abbrev pub invariant-loop-n : goal.invariant-loop-n
invariant-loop-n l = Putting l.initial.out l.initial.end (spaced (take l.n-index l.numbers)) l.out l.end
