use native.Mathlib.Omega.{arith}
use Rattle.records.proofs.Telling.{told-then, told-length}
use Rattle.tell_values.proofs.tell_code.Goals as goal

pub emit-b-requires : goal.emit-b-requires
emit-b-requires c = omega (arith, c.emit-a.ensures.few)

pub emit-d-requires : goal.emit-d-requires
emit-d-requires c = omega (arith, c.emit-a.ensures.few, c.emit-b.ensures.few)

pub emit-requires : goal.emit-requires
emit-requires c = omega (arith, c.emit-a.ensures.few, c.emit-b.ensures.few, c.emit-d.ensures.few)

pub shape_of-words : goal.shape_of-words
shape_of-words c = told-length (told-then (told-then (told-then c.emit-a.ensures c.emit-b.ensures) c.emit-d.ensures) c.emit.ensures)

pub returns : goal.returns
returns c = told-then (told-then (told-then c.emit-a.ensures c.emit-b.ensures) c.emit-d.ensures) c.emit.ensures
