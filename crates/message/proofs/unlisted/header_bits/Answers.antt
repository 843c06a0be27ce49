-- `header_bits` meets its contract: the widths are those of the ranges.
use native.Mathlib.Omega.{arith}
use Rattle.x691.specs.Types.{extent}
use Rattle.x691.specs.Encoding.{width, width_in}
use Rattle.message.specs.Unlisted.{header_bits}
use Rattle.message.proofs.unlisted.header_bits.Goals as goal

pub returns-then-has-eq0 : goal.returns-then-has-eq0
unfolding header_bits extent width width_in
returns-then-has-eq0 c = (omega (arith, c.if-has-eq0.true, c.width-acknowledgment.ensures.0, c.width-6.ensures.0, c.width-5.ensures.0, c.width-4.ensures.0, c.width-3.ensures.0, c.width-2.ensures.0, c.width.ensures.0, c.width-id.ensures.0), omega (arith, c.width-acknowledgment.ensures.0, c.width-6.ensures.0, c.width-5.ensures.0, c.width-4.ensures.0, c.width-3.ensures.0, c.width-2.ensures.0, c.width.ensures.0, c.width-id.ensures.0))

pub returns-then-has-eq1 : goal.returns-then-has-eq1
unfolding header_bits extent width width_in
returns-then-has-eq1 c = (omega (arith, c.if-has-eq1.true, c.width-acknowledgment.ensures.0, c.width-6.ensures.0, c.width-5.ensures.0, c.width-4.ensures.0, c.width-3.ensures.0, c.width-2.ensures.0, c.width.ensures.0, c.width-id.ensures.0), omega (arith, c.width-acknowledgment.ensures.0, c.width-6.ensures.0, c.width-5.ensures.0, c.width-4.ensures.0, c.width-3.ensures.0, c.width-2.ensures.0, c.width.ensures.0, c.width-id.ensures.0))

pub returns-then-has-eq2 : goal.returns-then-has-eq2
unfolding header_bits extent width width_in
returns-then-has-eq2 c = (omega (arith, c.if-has-eq2.true, c.width-acknowledgment.ensures.0, c.width-6.ensures.0, c.width-5.ensures.0, c.width-4.ensures.0, c.width-3.ensures.0, c.width-2.ensures.0, c.width.ensures.0, c.width-id.ensures.0), omega (arith, c.width-acknowledgment.ensures.0, c.width-6.ensures.0, c.width-5.ensures.0, c.width-4.ensures.0, c.width-3.ensures.0, c.width-2.ensures.0, c.width.ensures.0, c.width-id.ensures.0))

pub returns : goal.returns
unfolding header_bits extent width width_in
returns c = (omega (arith, c.if-has-eq2.false, c.if-has-eq1.false, c.if-has-eq0.false, c.requires, c.width-acknowledgment.ensures.0, c.width-6.ensures.0, c.width-5.ensures.0, c.width-4.ensures.0, c.width-3.ensures.0, c.width-2.ensures.0, c.width.ensures.0, c.width-id.ensures.0), omega (arith, c.width-acknowledgment.ensures.0, c.width-6.ensures.0, c.width-5.ensures.0, c.width-4.ensures.0, c.width-3.ensures.0, c.width-2.ensures.0, c.width.ensures.0, c.width-id.ensures.0))
