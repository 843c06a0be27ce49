use Rattle.std.proofs.Common.{arith}
use Rattle.records.proofs.Telling.{told_none, told-within}
use Rattle.positions.proofs.UnreadLaws.{note_absent, note_there}
use Rattle.tell_positions.proofs.tell_note.Goals as goal

pub returns-then-has-eq0 : goal.returns-then-has-eq0
returns-then-has-eq0 c = rw (note_absent _ _ _ _ c.if-has-eq0.true) (told-within 1 (omega arith) told_none)

pub returns : goal.returns
returns c = rw (note_there _ _ _ _ c.if-has-eq0.false) c.emit.ensures
