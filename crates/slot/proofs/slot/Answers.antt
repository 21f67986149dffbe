use Rattle.std.proofs.Common.{length, arith}
use Rattle.slot.proofs.Laws.{sent_fits, front_part, front_length}
use Rattle.slot.proofs.slot.Goals as goal

pub overflow_mul-out : goal.overflow_mul-out
overflow_mul-out c = omega (arith, c.run-sends.ensures.value, sent_fits c.args.store.now (length c.args.out.now))

pub slice_bounds-result-end : goal.slice_bounds-result-end
slice_bounds-result-end c = let e = c.run-sends.ensures in front_length _ c.args.out.now _ _ e.value e.out_after

pub returns-clause-result_value : goal.returns-clause-result_value
returns-clause-result_value c = let e = c.run-sends.ensures in front_part _ c.args.out.now _ _ e.value e.out_after
