-- `script_listing::channel` meets its contract.
use Rattle.std.proofs.Common.{◌<◌, length, arith}
use Rattle.script_listing.proofs.Pieces.{shares_room, channel_room, channel_put}
use Rattle.script_listing.proofs.channel.Goals as goal
use Rattle.script_listing.proofs.channel.Goals.{After-put_shares-end}

pub put_shares-end-requires-clause-room : goal.put_shares-end-requires-clause-room
put_shares-end-requires-clause-room c =
    let room = shares_room _ _ c.args.channel c.args.responses.now c.args.delays.now c.args.reserved.now
    c.args.hops c.requires.hops_bound c.requires.room _ _ c.put_phrase-place.ensures.value c.put_phrase-place.ensures.out_after in
    omega arith

-- the line feed has its place
below : (c : After-put_shares-end) → c.put_shares-end.result < length c.args.out.now
below c =
    channel_room _ _ c.args.channel _ _ _ _ c.requires.hops_bound c.requires.room _ _ c.put_phrase-place.ensures.value
    c.put_phrase-place.ensures.out_after _ _ c.put_shares-end.ensures.value c.put_shares-end.ensures.out_after

pub bounds-out-end : goal.bounds-out-end
bounds-out-end c = omega (arith, below (goal.at.bounds-out-end c).After-put_shares-end)

pub overflow_add-result : goal.overflow_add-result
overflow_add-result c = omega (arith, below (goal.at.overflow_add-result c).After-put_shares-end)

pub returns : goal.returns
returns c =
    let all = channel_put _ _ c.args.channel _ _ _ _ c.requires.hops_bound c.requires.room _ _ c.put_phrase-place.ensures.value
    c.put_phrase-place.ensures.out_after _ _ c.put_shares-end.ensures.value c.put_shares-end.ensures.out_after in
    record { value = all.place; out_after = all.same }
