-- `script_line::read_numbers` meets its contract: word by word, as far as they are numbers.
use Rattle.std.proofs.Common.{arith, sym, ◌∙◌}
use Rattle.script_line.proofs.Reading.{reading_none, reading_past, reading_broken, reading_more, reading_done}
use Rattle.script_line.proofs.read_numbers.Goals as goal

pub loop-end-init : goal.loop-end-init
loop-end-init c = reading_none _ _ _ c.word_end-end.ensures

pub returns-in_err-number : goal.returns-in_err-number
returns-in_err-number c =
    let e = reading_broken _ _ _ _ _ c.loop-end.invariant c.loop-end-test.true (sym c.in_err-number.ensures) in
    record { value = c.from_residual.ensures ∙ e.0; numbers_after = e.1 }

pub loop-end-smaller : goal.loop-end-smaller
loop-end-smaller c =
    let p = reading_past _ _ _ _ _ c.loop-end.invariant c.loop-end-test.true c.requires.line_len_bound
    c.requires.most_numbers_in_bounds _ (sym c.in_ok-number.ensures) in
    omega arith

pub loop-end-preserved : goal.loop-end-preserved
loop-end-preserved c =
    reading_more _ _ _ _ _ c.loop-end.invariant c.loop-end-test.true c.requires.line_len_bound
    c.requires.most_numbers_in_bounds _ (sym c.in_ok-number.ensures)

pub returns : goal.returns
returns c =
    let e = reading_done _ _ _ _ _ c.loop-end.invariant (omega arith) in
    record { value = e.0; numbers_after = e.1 }
