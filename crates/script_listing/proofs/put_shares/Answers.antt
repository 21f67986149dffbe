-- `script_listing::put_shares` meets its contract: what was given on one link more.
use Rattle.std.proofs.Common.{arith}
use Rattle.script_listing.proofs.Putting.{putting_size}
use Rattle.script_listing.proofs.Loops.{shares_none, shares_fit, shares_more}
use Rattle.script_listing.proofs.put_shares.Goals as goal

pub loop-j-init : goal.loop-j-init
loop-j-init c = shares_none c.args.responses.now c.args.delays.now c.args.reserved.now _ _ c.args.hops c.requires.room

pub put_share-end-requires : goal.put_share-end-requires
put_share-end-requires c =
    let s = c.loop-j.invariant in
    omega (arith, putting_size _ _ _ _ _ s, shares_fit _ _ _ _ _ _ c.requires.room _ _ _ s c.loop-j-test.true)

pub loop-j-preserved : goal.loop-j-preserved
loop-j-preserved c =
    shares_more _ _ _ _ _ _ c.requires.room _ _ _ c.loop-j.invariant c.loop-j-test.true _ _ c.put_share-end.ensures.value
    c.put_share-end.ensures.out_after
