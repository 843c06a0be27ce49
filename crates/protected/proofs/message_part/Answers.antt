use native.Mathlib.Omega.{arith}
use Rattle.records.proofs.Telling.{told-length, told-within}
use Rattle.protected.proofs.ProtectedLaws.{part_stuck, part-absent, part_there}
use Rattle.protected.proofs.message_part.Goals as goal

pub returns-then-c-ne0 : goal.returns-then-c-ne0
returns-then-c-ne0 c = part_stuck _ _ c.if-has-eq0.true c.if-c-ne0.true

pub shape_of-words-then-has-eq0 : goal.shape_of-words-then-has-eq0
shape_of-words-then-has-eq0 c = told-length c.emit-m.ensures

pub returns-then-has-eq0 : goal.returns-then-has-eq0
returns-then-has-eq0 c = part-absent _ _ c.if-has-eq0.true c.if-c-ne0.false (told-within 236059 (omega arith) c.emit-m.ensures)

pub shape_of-words : goal.shape_of-words
shape_of-words c = told-length c.read_inner.ensures.told

pub returns : goal.returns
returns c = part_there _ _ c.if-has-eq0.false c.read_inner.ensures
