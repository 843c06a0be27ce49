use native.Mathlib.Omega.{arith}
use Rattle.records.proofs.Telling.{told-then, told-length}
use Rattle.tell_values.proofs.tell_triple.Goals as goal

pub tell_name-b-requires : goal.tell_name-b-requires
tell_name-b-requires c = omega (arith, c.tell_name-a.ensures.few)

pub tell_name-requires : goal.tell_name-requires
tell_name-requires c = omega (arith, c.tell_name-a.ensures.few, c.tell_name-b.ensures.few)

pub shape_of-words : goal.shape_of-words
shape_of-words c = told-length (told-then (told-then c.tell_name-a.ensures c.tell_name-b.ensures) c.tell_name.ensures)

pub returns : goal.returns
returns c = told-then (told-then c.tell_name-a.ensures c.tell_name-b.ensures) c.tell_name.ensures
