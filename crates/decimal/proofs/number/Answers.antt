use Rattle.std.proofs.Common.{sym, ◌∙◌, arith, true-eqb, false-eqb}
use Rattle.decimal.proofs.DecimalLaws.{some-text, no_text, goes_on, stops, all}
use Rattle.decimal.proofs.number.Goals as goal

pub returns-then-is_empty : goal.returns-then-is_empty
returns-then-is_empty c = sym (no_text c.args.text.now (true-eqb _ _ c.if-is_empty.ensures))

pub loop-c-init : goal.loop-c-init
loop-c-init c = some-text c.args.text.now (omega (arith, false-eqb _ 0 c.if-is_empty.ensures))

pub returns-in_err-value : goal.returns-in_err-value
returns-in_err-value c = c.from_residual.ensures ∙ sym (c.loop-c.invariant ∙ stops c.args.text.now c.loop-c.c-index c.loop-c.value c.loop-c-test.true c.in_err-value.ensures)

pub loop-c-preserved : goal.loop-c-preserved
loop-c-preserved c = c.loop-c.invariant ∙ goes_on c.args.text.now c.loop-c.c-index c.loop-c.value c.loop-c-test.true (sym c.in_ok-value.was ∙ c.with_digit.ensures)

pub returns : goal.returns
returns c = sym (c.loop-c.invariant ∙ all c.args.text.now c.loop-c.c-index c.loop-c.value c.loop-c-test.false)
