use native.Mathlib.Omega.{arith}
use Rattle.records.proofs.Telling.{told-length, told-then}
use Rattle.runs.proofs.RunLaws.{runs_within}
use Rattle.elements.proofs.ElementLaws.{element_stuck, element_outside, element-read}
use Rattle.elements.proofs.read_element.Goals as goal

pub bits-g-requires : goal.bits-g-requires
bits-g-requires c = omega (arith, c.index_width-width.ensures.1)

pub returns-then-c-ne0 : goal.returns-then-c-ne0
returns-then-c-ne0 c = runs_within 143 _ (omega arith) (element_stuck _ _ c.index_width-width.ensures.0 c.bits-g.ensures c.if-c-ne0.true)

pub read_told_argument-requires : goal.read_told_argument-requires
read_told_argument-requires c = omega (arith, c.requires.0, c.emit-m.ensures.few)

pub shape_of-words-then-v-table : goal.shape_of-words-then-v-table
shape_of-words-then-v-table c = told-length (told-then c.emit-m.ensures c.read_told_argument.ensures.told)

pub returns-then-v-table : goal.returns-then-v-table
returns-then-v-table c = element-read _ _ c.index_width-width.ensures.0 c.bits-g.ensures c.if-v-table.true c.if-c-ne0.false c.emit-m.ensures c.read_told_argument.ensures

pub returns : goal.returns
returns c = runs_within 143 _ (omega arith) (element_outside _ _ c.index_width-width.ensures.0 c.bits-g.ensures c.if-v-table.false c.if-c-ne0.false c.stop-d.ensures)
