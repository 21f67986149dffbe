use Rattle.std.proofs.Common.{sym, refl, Err, arith, tests}
use Rattle.kinds.proofs.Laws.{channel_asked, route_asked}
use Rattle.folds.proofs.Chains.{failing_some}
use Rattle.checks.proofs.Laws.{fails_after, all_passed}
use Rattle.open_checks.proofs.Sound.{known_links, same_store}
use Rattle.open_checks.proofs.Walk.{request, checks, past_2, past_3, past_4, past_5, past_6, past_7}
use Rattle.open_checks.proofs.early.Goals as goal

pub returns-in-Some-unknown_link : goal.returns-in-Some-unknown_link
returns-in-Some-unknown_link c =
    let w = c.args.store.now in
    let q = request c.args.c c.args.p c.args.d c.args.b c.args.route.now in
    let h2 = past_2 w q c.in-Some.ensures (omega (arith, c.clock.ensures.value)) c.in_ok-asked.ensures c.in_ok-way.ensures in
    let f = failing_some _ _ (sym (rw c.new-lent.ensures at c.in-Some-unknown_link.ensures)) in
    rw f.1 (fails_after Err (checks w q) 4 _ refl h2 f.0)

pub repeated_link-requires : goal.repeated_link-requires
repeated_link-requires c =
    let w = c.args.store.now in
    let q = request c.args.c c.args.p c.args.d c.args.b c.args.route.now in
    let h2 = past_2 w q c.in-Some.ensures (omega (arith, c.clock.ensures.value)) c.in_ok-asked.ensures c.in_ok-way.ensures in
    let h3 = past_3 w q h2 (rw c.new-lent.ensures at c.in_default-unknown_link.ensures) in
    known_links w h3.0 _ _ h3.1.1.1.1.0

pub returns-in-Some-repeated_link : goal.returns-in-Some-repeated_link
returns-in-Some-repeated_link c =
    let w = c.args.store.now in
    let q = request c.args.c c.args.p c.args.d c.args.b c.args.route.now in
    let h2 = past_2 w q c.in-Some.ensures (omega (arith, c.clock.ensures.value)) c.in_ok-asked.ensures c.in_ok-way.ensures in
    let h3 = past_3 w q h2 (rw c.new-lent.ensures at c.in_default-unknown_link.ensures) in
    let f = failing_some _ _ (sym c.in-Some-repeated_link.ensures) in
    rw f.1 (fails_after Err (checks w q) 5 _ refl h3 f.0)

pub parted_link-requires-clause-known : goal.parted_link-requires-clause-known
parted_link-requires-clause-known c =
    let w = c.args.store.now in
    let q = request c.args.c c.args.p c.args.d c.args.b c.args.route.now in
    let h2 = past_2 w q c.in-Some.ensures (omega (arith, c.clock.ensures.value)) c.in_ok-asked.ensures c.in_ok-way.ensures in
    let h3 = past_3 w q h2 (rw c.new-lent.ensures at c.in_default-unknown_link.ensures) in
    rw c.new-lent.ensures h3.1.1.1.1.0

pub returns-in-Some-parted_link : goal.returns-in-Some-parted_link
returns-in-Some-parted_link c =
    let w = c.args.store.now in
    let q = request c.args.c c.args.p c.args.d c.args.b c.args.route.now in
    let h2 = past_2 w q c.in-Some.ensures (omega (arith, c.clock.ensures.value)) c.in_ok-asked.ensures c.in_ok-way.ensures in
    let h3 = past_3 w q h2 (rw c.new-lent.ensures at c.in_default-unknown_link.ensures) in
    let h4 = past_4 w q h3 c.in_default-repeated_link.ensures in
    let f = failing_some _ _ (sym (rw c.new-lent.ensures at c.in-Some-parted_link.ensures)) in
    rw f.1 (fails_after Err (checks w q) 6 _ refl h4 f.0)

pub returns-then-channel-ge-MOST_CHANNELS : goal.returns-then-channel-ge-MOST_CHANNELS
returns-then-channel-ge-MOST_CHANNELS c =
    let w = c.args.store.now in
    let same = same_store c.args.store.now _ c.in-Some.ensures in
    let q = request c.args.c c.args.p c.args.d c.args.b c.args.route.now in
    let h2 = past_2 w q c.in-Some.ensures (omega (arith, c.clock.ensures.value)) c.in_ok-asked.ensures c.in_ok-way.ensures in
    let h3 = past_3 w q h2 (rw c.new-lent.ensures at c.in_default-unknown_link.ensures) in
    let h4 = past_4 w q h3 c.in_default-repeated_link.ensures in
    let h5 = past_5 w q h4 (rw c.new-lent.ensures at c.in_default-parted_link.ensures) in
    let count = rw same at c.channels-channel.ensures.value in
    fails_after Err (checks w q) 7 _ refl h5 (grind (arith, tests))

pub crowded_link-requires : goal.crowded_link-requires
crowded_link-requires c =
    let w = c.args.store.now in
    let same = same_store c.args.store.now _ c.in-Some.ensures in
    let q = request c.args.c c.args.p c.args.d c.args.b c.args.route.now in
    let h2 = past_2 w q c.in-Some.ensures (omega (arith, c.clock.ensures.value)) c.in_ok-asked.ensures c.in_ok-way.ensures in
    let h3 = past_3 w q h2 (rw c.new-lent.ensures at c.in_default-unknown_link.ensures) in
    rw same h3.1.1.1.1.0

pub returns-in-Some-crowded_link : goal.returns-in-Some-crowded_link
returns-in-Some-crowded_link c =
    let w = c.args.store.now in
    let same = same_store c.args.store.now _ c.in-Some.ensures in
    let q = request c.args.c c.args.p c.args.d c.args.b c.args.route.now in
    let h2 = past_2 w q c.in-Some.ensures (omega (arith, c.clock.ensures.value)) c.in_ok-asked.ensures c.in_ok-way.ensures in
    let h3 = past_3 w q h2 (rw c.new-lent.ensures at c.in_default-unknown_link.ensures) in
    let h4 = past_4 w q h3 c.in_default-repeated_link.ensures in
    let h5 = past_5 w q h4 (rw c.new-lent.ensures at c.in_default-parted_link.ensures) in
    let h6 = past_6 w q h5 (omega (arith, rw same at c.channels-channel.ensures.value)) in
    let f = failing_some _ _ (sym (rw same at c.in-Some-crowded_link.ensures)) in
    rw f.1 (fails_after Err (checks w q) 8 _ refl h6 f.0)

pub returns : goal.returns
returns c =
    let w = c.args.store.now in
    let same = same_store c.args.store.now _ c.in-Some.ensures in
    let q = request c.args.c c.args.p c.args.d c.args.b c.args.route.now in
    let h2 = past_2 w q c.in-Some.ensures (omega (arith, c.clock.ensures.value)) c.in_ok-asked.ensures c.in_ok-way.ensures in
    let h3 = past_3 w q h2 (rw c.new-lent.ensures at c.in_default-unknown_link.ensures) in
    let h4 = past_4 w q h3 c.in_default-repeated_link.ensures in
    let h5 = past_5 w q h4 (rw c.new-lent.ensures at c.in_default-parted_link.ensures) in
    let h6 = past_6 w q h5 (omega (arith, rw same at c.channels-channel.ensures.value)) in
    let h7 = past_7 w q h6 (rw same at c.in_default-crowded_link.ensures) in
    let asked = channel_asked _ _ _ _ (sym c.in_ok-asked.ensures) in
    let way = route_asked _ (sym c.in_ok-way.ensures) in
    rw (c.channels-channel.ensures.value, same, asked, way) (sym (all_passed Err (checks w q) _ h7))
