use native.Mathlib.Omega.{arith}
use Rattle.records.proofs.Telling.{told-then, told-length}
use Rattle.tell_values.proofs.tell_runway.Goals as goal

pub emit-requires : goal.emit-requires
emit-requires c = omega (arith, c.emit-m.ensures.few)

pub shape_of-words : goal.shape_of-words
shape_of-words c = told-length (told-then c.emit-m.ensures c.emit.ensures)

pub returns : goal.returns
returns c = told-then c.emit-m.ensures c.emit.ensures
