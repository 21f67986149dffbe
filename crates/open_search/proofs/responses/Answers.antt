-- at each place passed the new channel has a response, and on one link every row passed has one below the new channel
use Rattle.std.proofs.Common.{◌≡◌, refl, arith}
use Rattle.store.specs.Layout.{number_at}
use Rattle.store.proofs.Laws.Sound.{sound_is}
use Rattle.open_rules.specs.Search.{position}
use Rattle.open_rules.proofs.Laws.Search.{falling_none}
use Rattle.open_rules.proofs.Laws.Ranged.{rows_most}
use Rattle.open_search.proofs.Table.{filled}
use Rattle.open_search.proofs.Steps.{link_there, old_workable, old_limit, new_workable, searching_none, searching_end}
use Rattle.open_search.proofs.Steps.{placed_at, placed_first, placed_more, placed_none}
use Rattle.open_search.proofs.responses.Goals as goal
use Rattle.open_search.proofs.responses.Goals.{then-q-gt0+in_default, else-q-gt0}

pub search-init : goal.search-init
search-init c = searching_none _ _ _ _ _ _ c.requires.empty (record { size = refl; new = refl })

pub loop-q-init : goal.loop-q-init
loop-q-init c =
    let s = sound_is _ c.link.ensures.sound in
    let there = link_there c.args.store.now _ _ c.requires.known _ c.search-test.true in
    let few = rows_most _ s _ there in
    let i = c.search.invariant in
    let t = filled _ _ _ _ _ _ i.table few c.put_rows.ensures in
    record {
      searching = record { passing = i.passing; none = i.none; written = i.written; table = t.headed };
      turn = record { sound = s; c_in = c.requires.c_in_range; p_in = c.requires.p_in_range; link = there; table = t };
      falling = falling_none _ _ _ (rw c.link.ensures.value at c.rows-q.ensures);
      few = omega (arith, few, rw c.link.ensures.value at c.rows-q.ensures);
    }

pub response_under-requires : goal.response_under-requires
response_under-requires c =
    let i = c.loop-q.invariant in
    record {
      workable = old_workable _ _ _ _ _ i.turn _ c.if-q-gt0.true i.falling.place;
      limit_le_most_p = old_limit _ _ _ _ _ i.turn _ c.if-q-gt0.true i.falling.place;
    }

pub response_under-requires-in-loop-q-clause-workable : goal.response_under-requires-in-loop-q-clause-workable
response_under-requires-in-loop-q-clause-workable c =
    let i = c.loop-q.invariant in
    new_workable _ _ _ _ _ i.turn _ i.falling.place

pub search-preserved : goal.search-preserved
search-preserved c =
    let i = c.loop-q.invariant in
    let at : c.loop-q.q ≡ position c.args.store.now c.args.asked.c c.args.asked.p (number_at c.args.route.now c.search.j) =
    elim c.if-q-gt0.branch [
      | then-q-gt0+in_default w ↦ placed_at i w.if-q-gt0.true _ w.response_under.ensures w.in_default.is
      | else-q-gt0 w ↦ placed_first i w.if-q-gt0.false
    ]
    in
    placed_more i c.search-test.true at _ c.response_under-in-loop-q.ensures _ c.in-Some-response.is

pub returns-after-search : goal.returns-after-search
returns-after-search c =
    let s = searching_end _ _ _ _ _ _ _ _ c.search.invariant c.search-test.false in
    record { value = s.value; found_after = s.found_after }

pub returns-in_default-response : goal.returns-in_default-response
returns-in_default-response c =
    let i = c.loop-q.invariant in
    let at : c.loop-q.q ≡ position c.args.store.now c.args.asked.c c.args.asked.p (number_at c.args.route.now c.search.j) =
    elim c.if-q-gt0.branch [
      | then-q-gt0+in_default w ↦ placed_at i w.if-q-gt0.true _ w.response_under.ensures w.in_default.is
      | else-q-gt0 w ↦ placed_first i w.if-q-gt0.false
    ]
    in
    let s = placed_none i c.search-test.true at _ c.response_under-in-loop-q.ensures c.in_default-response.is in
    record { value = s.value; found_after = s.found_after }
