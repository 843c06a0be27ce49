use Rattle.std.proofs.Common.{arith}
use Rattle.cursor.proofs.Rules.{pulls_stuck, pulls_got, pulls_short}
use Rattle.cursor.proofs.place.bits.Goals as goal

pub returns-then-c-ne0 : goal.returns-then-c-ne0
returns-then-c-ne0 c = pulls_stuck _ _ _ c.if-c-ne0.true

pub returns-then-n-left : goal.returns-then-n-left
returns-then-n-left c = pulls_got _ _ _ c.if-c-ne0.false (omega arith) c.wrapping_sub_usize-left.ensures.value c.if-n-left.true c.uint-v.ensures.0 c.wrapping_add_usize-behind.ensures.value

pub returns : goal.returns
returns c = pulls_short _ _ _ c.if-c-ne0.false (omega arith) c.wrapping_sub_usize-left.ensures.value c.if-n-left.false c.ran_out-why.ensures

pub ran_out-why-requires : goal.ran_out-why-requires
ran_out-why-requires c = omega arith
