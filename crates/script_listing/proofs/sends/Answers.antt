-- `script_listing::sends` meets its contract: one send more.
use Rattle.std.proofs.Common.{arith}
use Rattle.script_listing.proofs.Putting.{putting_size}
use Rattle.script_listing.proofs.Loops.{five_lent, sends_none, sends_fit, sends_more}
use Rattle.script_listing.proofs.sends.Goals as goal

pub loop-i-init : goal.loop-i-init
loop-i-init c = sends_none _ _ _ _ c.requires.room

pub line-end-requires : goal.line-end-requires
line-end-requires c =
    let s = c.loop-i.invariant in
    rw (five_lent c.args.numbers.now _ _ c.requires.enough c.loop-i-test.true)
    (omega (arith, putting_size _ _ _ _ _ s, sends_fit _ _ _ _ c.requires.room _ _ _ s c.loop-i-test.true))

pub loop-i-preserved : goal.loop-i-preserved
loop-i-preserved c =
    sends_more _ _ _ _ c.requires.room _ _ _ c.loop-i.invariant c.loop-i-test.true c.requires.enough _ _ c.line-end.ensures.value
    c.line-end.ensures.out_after
