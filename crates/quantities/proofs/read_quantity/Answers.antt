use native.Mathlib.Omega.{arith}
use Rattle.atn.specs.Format.{none_left}
use Rattle.quantities.proofs.Widths.{index-width}
use Rattle.ranged_numbers.proofs.ChoiceLaws.{takes_row, takes_no_row}
use Rattle.quantities.proofs.read_quantity.Goals as goal

pub bits-kind-requires : goal.bits-kind-requires
bits-kind-requires c = omega (arith, c.requires.1)

pub range_at-range-requires : goal.range_at-range-requires
range_at-range-requires c = omega (arith, c.requires.2, c.if-k-kinds.true)

pub returns-then-k-kinds : goal.returns-then-k-kinds
returns-then-k-kinds c = record { reads = λ t u. takes_row t u _ _ none_left c.bits-kind.result (rw (c.requires.0, index-width u _ _) at c.bits-kind.ensures) c.ranged-number.result c.if-k-kinds.true (rw c.range_at-range.ensures.1 at c.ranged-number.ensures) }

pub returns : goal.returns
returns c = record { reads = λ t u. takes_no_row t u _ _ c.bits-kind.result (rw (c.requires.0, index-width u _ _) at c.bits-kind.ensures) c.if-k-kinds.false c.stop.ensures }

pub ranged-number-requires : goal.ranged-number-requires
ranged-number-requires c = c.range_at-range.ensures.0
