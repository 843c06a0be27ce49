use native.Mathlib.Omega.{arith}
use Rattle.records.proofs.Telling.{told-length, told-then}
use Rattle.forward_headers.proofs.tell_header.Goals as goal

pub tell_text-b-requires : goal.tell_text-b-requires
tell_text-b-requires c = (omega (arith, c.requires.0, c.tell_date_time-a.ensures.few), c.requires.1, c.requires.2)

pub emit-requires : goal.emit-requires
emit-requires c = omega (arith, c.requires.0, c.tell_date_time-a.ensures.few, c.tell_text-b.ensures.few)

pub shape_of-words : goal.shape_of-words
shape_of-words c = told-length (told-then c.tell_date_time-a.ensures (told-then c.tell_text-b.ensures c.emit.ensures))

pub returns : goal.returns
returns c = told-then c.tell_date_time-a.ensures (told-then c.tell_text-b.ensures c.emit.ensures)
