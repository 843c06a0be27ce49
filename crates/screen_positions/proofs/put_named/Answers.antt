use Rattle.screen_bytes.proofs.Putting.{put_then, put-length}
use Rattle.screen_records.proofs.FieldLaws.{from_more}
use Rattle.screen_positions.specs.Positions.{named}
use Rattle.screen_positions.proofs.put_named.Goals as goal

pub returns : goal.returns
unfolding named
returns c = rw (← c.text_records-k.ensures.0) (put_then c.put_record_text-a.ensures (rw from_more at c.put_bracketed.ensures))

pub shape_of-out : goal.shape_of-out
shape_of-out c = put-length (returns c)
