-- `script_listing::put_share` meets its contract: three numbers, one behind the other.
use Rattle.script_listing.proofs.Pieces.{share_put}
use Rattle.script_listing.proofs.put_share.Goals as goal

pub returns-clause-out_after : goal.returns-clause-out_after
returns-clause-out_after c =
    (share_put _ _ c.args.response c.args.delay c.args.reserved c.requires _ _ _ _ _ _ c.put_number-end.ensures.value
    c.put_number-end.ensures.out_after c.put_number-end-2.ensures.value c.put_number-end-2.ensures.out_after
    c.put_number.ensures.value c.put_number.ensures.out_after).same
