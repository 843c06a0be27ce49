use Rattle.screen_bytes.proofs.Putting.{put_then, put-length}
use Rattle.screen_positions.specs.Positions.{cleared}
use Rattle.screen_positions.proofs.put_cleared.Goals as goal

pub returns : goal.returns
unfolding cleared
returns c = rw (← c.position_records-k.ensures.0, ← c.tag_at-t.ensures) (put_then c.put_position-a.ensures c.put_unread.ensures)

pub shape_of-out : goal.shape_of-out
shape_of-out c = put-length (returns c)
