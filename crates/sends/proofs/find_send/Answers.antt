use native.Mathlib.Omega.{arith}
use Rattle.sends.proofs.HeadLaws.{narrow, found}
use Rattle.sends.proofs.find_send.Goals as goal

pub returns-then-frame-lt4 : goal.returns-then-frame-lt4
returns-then-frame-lt4 c some = absurd (some c.none.ensures)

pub uint-bits-requires : goal.uint-bits-requires
uint-bits-requires c = omega (arith, narrow _ c.index_bits-width.ensures)

pub returns-then-head-ne1 : goal.returns-then-head-ne1
returns-then-head-ne1 c some = absurd (some c.none-then-head-ne1.ensures)

pub returns-then-not-is_protected : goal.returns-then-not-is_protected
returns-then-not-is_protected c some = absurd (some c.none-then-not-is_protected.ensures)

pub behind_length-requires : goal.behind_length-requires
behind_length-requires c = (omega (arith, narrow _ c.index_bits-width.ensures), omega arith)

pub overflow_add-width : goal.overflow_add-width
overflow_add-width c = omega (arith, narrow _ c.index_bits-width.ensures)

pub overflow_add-width-2 : goal.overflow_add-width-2
overflow_add-width-2 c = omega (arith, narrow _ c.index_bits-width.ensures)

pub returns : goal.returns
returns c some = found _ c.index_bits-width.ensures c.if-frame-lt4.false c.uint-bits.ensures.0 c.if-head-ne1.false (c.is_protected.ensures c.if-not-is_protected.false) c.behind_length.ensures some
