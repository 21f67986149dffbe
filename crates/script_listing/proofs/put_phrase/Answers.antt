-- `script_listing::put_phrase` meets its contract.
use Rattle.std.proofs.Common.{◌+◌, ◌*◌, ◌≤◌, length, arith}
use Rattle.script_listing.proofs.Putting.{putting_size}
use Rattle.script_listing.proofs.Pieces.{two_pieces}
use Rattle.script_listing.proofs.Loops.{spaced_none, spaced_fits, spaced_step, spaced_done}
use Rattle.script_listing.proofs.put_phrase.Goals as goal
use Rattle.script_listing.proofs.put_phrase.Goals.{After-put_text-end}

-- the numbers have room behind the word
room : (c : After-put_text-end) → c.put_text-end.result + 21 * length c.args.numbers.now ≤ length c.put_text-end.new.out
room c = omega (arith, c.put_text-end.ensures.value)

pub loop-n-init : goal.loop-n-init
loop-n-init c = spaced_none c.args.numbers.now _ _ (room (goal.at.loop-n-init c).After-put_text-end)

pub put_number-end-requires : goal.put_number-end-requires
put_number-end-requires c =
    let s = c.loop-n.invariant in
    let f = spaced_fits _ _ _ (room (goal.at.put_number-end-requires c).After-put_text-end) _ _ _ s c.loop-n-test.true in
    omega (arith, putting_size _ _ _ _ _ s, f)

pub loop-n-preserved : goal.loop-n-preserved
loop-n-preserved c =
    spaced_step _ _ _ (room (goal.at.loop-n-preserved c).After-put_text-end) _ _ _ c.loop-n.invariant c.loop-n-test.true _ _
    c.put_number-end.ensures.value c.put_number-end.ensures.out_after

pub returns-clause-out_after : goal.returns-clause-out_after
returns-clause-out_after c =
    let behind = spaced_done _ _ _ (room (goal.at.returns-clause-out_after c).After-put_text-end) _ _ _ c.loop-n.invariant c.loop-n-test.false in
    (two_pieces _ _ c.args.word.now _ (omega arith) _ _ c.put_text-end.ensures.value c.put_text-end.ensures.out_after _ _ behind).same
