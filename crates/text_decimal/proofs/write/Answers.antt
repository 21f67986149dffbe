-- `text_decimal::write` meets its contract: at the end all digits are written.
use Rattle.std.proofs.Common.{arith}
use Rattle.text_decimal.proofs.Writing.{written_done}
use Rattle.text_decimal.proofs.write.Goals as goal

pub returns-clause-out_after : goal.returns-clause-out_after
returns-clause-out_after c = written_done _ _ _ _ _ _ c.loop-i.invariant (omega arith)
