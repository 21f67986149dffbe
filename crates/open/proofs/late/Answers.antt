use Rattle.std.proofs.Common.{◌∙◌, ◌≤◌, Err, rules}
use mathlib.Core.Bool.{and-eq-true_iff}
use Rattle.kinds.specs.Ranges.{in_range_c, in_range_p}
use Rattle.checks.proofs.Laws.{accepted_all}
use Rattle.open_rules.specs.Asked.{asking}
use Rattle.open_rules.specs.Refusal.{early_checks}
use Rattle.open_rules.proofs.Laws.Outcome.{refused_accepted}
use Rattle.open_rules.proofs.Laws.Delays.{total_least}
use Rattle.open_rules.proofs.Laws.Passed.{early_is}
use Rattle.open_shares.proofs.Laws.{responses_ranged, delays_placed, reserved_ranged}
use Rattle.open.proofs.Outcome.{answer_refused, all_accepted}
use Rattle.open.proofs.Steps.{refused_8, answered, facts, answers, responses_at, sum_is, refused_9, past_9}
use Rattle.open.proofs.Steps.{delays_at, delays_are, reserved_are, reserved_at, refused_10, past_10, accepted_is}
use Rattle.open.proofs.Laws.{all_late}
use Rattle.open.proofs.late.Goals as goal

pub new-sound-requires : goal.new-sound-requires
new-sound-requires c = (accepted_all Err _ _ _ (refused_accepted _) c.requires.early).0

pub responses-requires : goal.responses-requires
responses-requires c =
    let w = c.args.store.now in
    let q = asking c.args.passed.asked c.args.route.now in
    let early = accepted_all Err (early_checks w q) _ _ (refused_accepted _) c.requires.early in
    let one = (and-eq-true_iff (in_range_c q.c) _).0 early.1.1.0 in
    let two = (and-eq-true_iff (in_range_p q.p) _).0 one.1 in
    record {
      c_in_range = one.0;
      p_in_range = two.0;
      few_hops = (early_is w q early).hops_most;
      known = rw c.new-sound.ensures early.1.1.1.1.0;
      empty = search rules;
    }

pub returns-in-Some : goal.returns-in-Some
returns-in-Some c =
    let w = c.args.store.now in
    let q = asking c.args.passed.asked c.args.route.now in
    let early = accepted_all Err (early_checks w q) _ _ (refused_accepted _) c.requires.early in
    c.refused.ensures ∙ answer_refused w q (refused_8 w q early (rw c.new-sound.ensures at c.in-Some.ensures.value))

pub total-sum-requires : goal.total-sum-requires
total-sum-requires c =
    let w = c.args.store.now in
    let q = asking c.args.passed.asked c.args.route.now in
    let early = accepted_all Err (early_checks w q) _ _ (refused_accepted _) c.requires.early in
    let rs = c.responses.new.found in
    let a = answered w q rs early (rw c.new-sound.ensures at c.in_default.ensures.value) (rw c.new-sound.ensures at c.responses.ensures.found_after) in
    let e = facts w q rs a in
    let r = answers w q rs a in
    record {
      hops_le_most_hops = rw c.requires.hops_are e.hops_most;
      all_up_to = rw c.requires.hops_are (responses_ranged w q e rs r (responses_at w q rs a));
    }

pub returns-then-sum-asked : goal.returns-then-sum-asked
returns-then-sum-asked c =
    let w = c.args.store.now in
    let q = asking c.args.passed.asked c.args.route.now in
    let early = accepted_all Err (early_checks w q) _ _ (refused_accepted _) c.requires.early in
    let rs = c.responses.new.found in
    let a = answered w q rs early (rw c.new-sound.ensures at c.in_default.ensures.value) (rw c.new-sound.ensures at c.responses.ensures.found_after) in
    let total = rw c.requires.hops_are at c.total-sum.ensures in
    c.refused-then-sum-asked.ensures ∙ answer_refused w q (refused_9 w q rs a _ total c.if-sum-asked.true)

pub delays-delays-requires : goal.delays-delays-requires
delays-delays-requires c =
    let w = c.args.store.now in
    let q = asking c.args.passed.asked c.args.route.now in
    let early = accepted_all Err (early_checks w q) _ _ (refused_accepted _) c.requires.early in
    let rs = c.responses.new.found in
    let a = answered w q rs early (rw c.new-sound.ensures at c.in_default.ensures.value) (rw c.new-sound.ensures at c.responses.ensures.found_after) in
    let e = facts w q rs a in
    let r = answers w q rs a in
    let total = rw c.requires.hops_are at c.total-sum.ensures in
    let least : 1 ≤ c.total-sum.result = rw (sum_is w q rs a _ total) (total_least w q e r) in
    record {
      hops_le_most_hops = rw c.requires.hops_are e.hops_most;
      d_le_most_d = e.good.d_most;
      all_up_to = rw c.requires.hops_are (responses_ranged w q e rs r (responses_at w q rs a));
      sum_value = c.total-sum.ensures;
      le_sum = least;
      sum_le_d = c.if-sum-asked.false;
    }

pub reserved-reserved-requires : goal.reserved-reserved-requires
reserved-reserved-requires c =
    let w = c.args.store.now in
    let q = asking c.args.passed.asked c.args.route.now in
    let early = accepted_all Err (early_checks w q) _ _ (refused_accepted _) c.requires.early in
    let rs = c.responses.new.found in
    let a = answered w q rs early (rw c.new-sound.ensures at c.in_default.ensures.value) (rw c.new-sound.ensures at c.responses.ensures.found_after) in
    let e = facts w q rs a in
    let r = answers w q rs a in
    let ds = c.delays-delays.result in
    let given = rw c.requires.hops_are at c.delays-delays.ensures in
    record {
      places = rw c.new.ensures (delays_placed w q e ds r (delays_at w q rs a ds given));
      c_le_most_c = e.good.c_most;
      b_le_most_b = e.good.b_most;
    }

pub full_link-requires : goal.full_link-requires
full_link-requires c =
    let w = c.args.store.now in
    let q = asking c.args.passed.asked c.args.route.now in
    let early = accepted_all Err (early_checks w q) _ _ (refused_accepted _) c.requires.early in
    let rs = c.responses.new.found in
    let a = answered w q rs early (rw c.new-sound.ensures at c.in_default.ensures.value) (rw c.new-sound.ensures at c.responses.ensures.found_after) in
    let e = facts w q rs a in
    let ds = c.delays-delays.result in
    let given = rw c.requires.hops_are at c.delays-delays.ensures in
    let ss = c.reserved-reserved.result in
    let kept = rw c.new.ensures at c.reserved-reserved.ensures in
    record {
      few_hops = e.hops_most;
      known = rw c.new-sound.ensures early.1.1.1.1.0;
      all_up_to = reserved_ranged w q e ss (reserved_at w q rs a ds given ss kept);
    }

pub returns-in-Some-full_link : goal.returns-in-Some-full_link
returns-in-Some-full_link c =
    let w = c.args.store.now in
    let q = asking c.args.passed.asked c.args.route.now in
    let early = accepted_all Err (early_checks w q) _ _ (refused_accepted _) c.requires.early in
    let rs = c.responses.new.found in
    let a = answered w q rs early (rw c.new-sound.ensures at c.in_default.ensures.value) (rw c.new-sound.ensures at c.responses.ensures.found_after) in
    let total = rw c.requires.hops_are at c.total-sum.ensures in
    let ds = c.delays-delays.result in
    let given = rw c.requires.hops_are at c.delays-delays.ensures in
    let ss = c.reserved-reserved.result in
    let kept = rw c.new.ensures at c.reserved-reserved.ensures in
    let nine = past_9 w q rs a _ total c.if-sum-asked.false in
    c.refused-in-Some-full_link.ensures
    ∙ answer_refused w q (refused_10 w q rs a ds given ss kept nine (rw c.new-sound.ensures at c.in-Some-full_link.ensures))

pub returns : goal.returns
returns c =
    let w = c.args.store.now in
    let q = asking c.args.passed.asked c.args.route.now in
    let early = accepted_all Err (early_checks w q) _ _ (refused_accepted _) c.requires.early in
    let rs = c.responses.new.found in
    let a = answered w q rs early (rw c.new-sound.ensures at c.in_default.ensures.value) (rw c.new-sound.ensures at c.responses.ensures.found_after) in
    let total = rw c.requires.hops_are at c.total-sum.ensures in
    let ds = c.delays-delays.result in
    let given = rw c.requires.hops_are at c.delays-delays.ensures in
    let ss = c.reserved-reserved.result in
    let kept = rw c.new.ensures at c.reserved-reserved.ensures in
    let nine = past_9 w q rs a _ total c.if-sum-asked.false in
    let late = past_10 w q rs a ds given ss kept nine (rw c.new-sound.ensures at c.in_default-full_link.ensures) in
    accepted_is w q c.requires.number (all_accepted w q early (all_late w q early late)) a.are (delays_are w q rs a ds given)
    (reserved_are w q rs a ds given ss kept)
