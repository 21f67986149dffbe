use Rattle.std.proofs.Common.{◌≡◌, sym, arith}
use Rattle.std.specs.declared.result.Result.TheVariants.{Ok}
use Rattle.std.proofs.lemmas.Result.{err_from_is_err_and}
use Rattle.slot_rules.specs.Idle.{skip_answer}
use Rattle.slot_wait.proofs.Skipped.{idle_long, skip_stays, skip_clock, skip_refused, skip_some, skip_fits}
use Rattle.slot_wait.proofs.skip.Goals as goal

pub returns-in_err-most : goal.returns-in_err-most
returns-in_err-most c =
    let r = skip_refused c.args.store.now c.args.n (sym c.in_err-most.ensures) in
    let p = err_from_is_err_and c.from_residual.result c.from_residual.ensures.1 in
    record { value = rw (p.1, p.2, r); store_after = sym (skip_stays _ _ r) }

pub new-requires : goal.new-requires
new-requires c = idle_long _ (sym c.in_ok-most.ensures)

pub overflow_add-clock : goal.overflow_add-clock
overflow_add-clock c =
    omega (arith, rw c.new.ensures at c.clock-clock.ensures, c.min-slots.ensures, skip_fits _ (sym c.in_ok-most.ensures) c.args.n)

pub put_clock-requires : goal.put_clock-requires
put_clock-requires c = idle_long _ (sym c.in_ok-most.ensures)

pub returns : goal.returns
returns c =
    let r : skip_answer c.args.store.now c.args.n ≡ Ok c.min-slots.result =
    rw c.min-slots.ensures (skip_some _ (sym c.in_ok-most.ensures) c.args.n) in
    record { value = sym r; store_after = rw (skip_clock _ _ r, c.put_clock.ensures, rw c.new.ensures at c.clock-clock.ensures) }
