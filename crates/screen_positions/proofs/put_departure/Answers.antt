use Rattle.screen_bytes.specs.Text.{bytes}
use Rattle.screen_bytes.proofs.Putting.{put_then, put-length}
use Rattle.screen_records.proofs.FieldLaws.{from_more}
use Rattle.screen_positions.specs.Positions.{departure}
use Rattle.screen_positions.proofs.put_departure.Goals as goal

pub returns : goal.returns
unfolding departure bytes
returns c = rw (← c.text_records-k.ensures.0) (put_then (put_then c.put_record_text-a.ensures c.put_text-b.ensures) (rw from_more at c.put_cleared.ensures))

pub shape_of-out : goal.shape_of-out
shape_of-out c = put-length (returns c)
