-- `text_decimal::read` meets its contract: what is read so far, and then one byte more.
use Rattle.std.proofs.Common.{arith, length, ◌∙◌, inl, inr}
use Rattle.std.proofs.lemmas.Slice.{between_to_end}
use Rattle.text_decimal.proofs.Reading.{none_past, read_none, read_bad, read_large, read_more, read_nothing, read_value}
use Rattle.text_decimal.proofs.read.Goals as goal
use Rattle.text_decimal.proofs.read.Goals.{Left-loop-byte, else-loop-byte-test, then-loop-byte-test+then-byte-eq32}

pub returns-in_err-rest : goal.returns-in_err-rest
returns-in_err-rest c = c.from_residual.ensures ∙ none_past _ _ (grind (arith, c.in_err-rest.ensures.lookup))

pub loop-byte-init : goal.loop-byte-init
loop-byte-init c =
    read_none _ _ _
    (c.in_ok-rest.ensures.lookup.0.2 ∙ between_to_end c.args.text.now c.args.from (length c.args.text.now) (omega arith))

pub returns-then-not-is_ascii_digit : goal.returns-then-not-is_ascii_digit
returns-then-not-is_ascii_digit c =
    read_bad _ _ _ _ _ _ c.loop-byte.invariant c.loop-byte-test.true c.if-byte-eq32.false (grind (arith, c.is_ascii_digit.ensures.value))

pub returns-in_err-value : goal.returns-in_err-value
returns-in_err-value c =
    c.from_residual-in_err-value.ensures
    ∙ read_large _ _ _ _ _ _ c.loop-byte.invariant c.loop-byte-test.true c.if-byte-eq32.false (omega (arith, c.in_err-value.ensures))

pub overflow_add-end : goal.overflow_add-end
overflow_add-end c = grind (arith, c.loop-byte.invariant.end_is, c.in_ok-rest.ensures.lookup)

pub loop-byte-preserved : goal.loop-byte-preserved
loop-byte-preserved c =
    read_more _ _ _ _ _ _ c.loop-byte.invariant c.loop-byte-test.true c.if-byte-eq32.false (grind (arith, c.is_ascii_digit.ensures.value))
    _ (omega (arith, c.in_ok-value.ensures)) (omega (arith, c.in_ok-value.ensures))

pub returns-then-empty : goal.returns-then-empty
returns-then-empty c =
    elim c.loop-byte-test.branch [
      | else-loop-byte-test w ↦ read_nothing _ _ _ _ _ _ c.loop-byte.invariant (inl w.loop-byte-test.false) c.if-empty.true
      | then-loop-byte-test+then-byte-eq32 w ↦
          read_nothing _ _ _ _ _ _ c.loop-byte.invariant (inr (w.loop-byte-test.true, w.if-byte-eq32.true)) c.if-empty.true
    ]

pub returns : goal.returns
returns c =
    elim c.loop-byte-test.branch [
      | else-loop-byte-test w ↦ read_value _ _ _ _ _ _ c.loop-byte.invariant (inl w.loop-byte-test.false) c.if-empty.false
      | then-loop-byte-test+then-byte-eq32 w ↦
          read_value _ _ _ _ _ _ c.loop-byte.invariant (inr (w.loop-byte-test.true, w.if-byte-eq32.true)) c.if-empty.false
    ]
