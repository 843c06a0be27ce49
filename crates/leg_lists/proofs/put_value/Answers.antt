use native.Mathlib.Omega.{arith}
use Rattle.records.proofs.Telling.{told-then, told-length}
use Rattle.optional_parts.proofs.PartLaws.{part-within, part-told, part_untold}
use Rattle.leg_lists.proofs.ListLaws.{reads_placed}
use Rattle.leg_lists.proofs.put_value.Goals as goal

pub returns-then-d-ne0 : goal.returns-then-d-ne0
returns-then-d-ne0 c = part-within (part_untold (reads_placed 96 c.args.place c.read_leg-a.ensures.reads) c.if-d-ne0.true) 158 (omega arith)

pub tell_leg-k-requires : goal.tell_leg-k-requires
tell_leg-k-requires c = (omega (arith, c.requires, c.emit-m.ensures.few), c.read_leg-a.ensures.held)

pub shape_of-words : goal.shape_of-words
shape_of-words c = told-length (told-then c.emit-m.ensures c.tell_leg-k.ensures)

pub returns : goal.returns
returns c = part-told (reads_placed 96 c.args.place c.read_leg-a.ensures.reads) c.if-d-ne0.false (told-then c.emit-m.ensures c.tell_leg-k.ensures)
