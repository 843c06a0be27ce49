use Rattle.records.proofs.Telling.{told-then, told-length}
use Rattle.positions.specs.Positions.{departure_recs}
use Rattle.tell_positions.proofs.tell_departure.Goals as goal

pub shape_of-words : goal.shape_of-words
shape_of-words c = told-length (told-then c.tell_text-a.ensures (told-then c.tell_position-b.ensures (told-then c.tell_note-d.ensures c.tell_note.ensures)))

pub returns : goal.returns
unfolding departure_recs
returns c = told-then c.tell_text-a.ensures (told-then c.tell_position-b.ensures (told-then c.tell_note-d.ensures c.tell_note.ensures))
