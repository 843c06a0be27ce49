use Rattle.screen_bytes.proofs.Putting.{put_then, put-length}
use Rattle.screen_records.proofs.FieldLaws.{from_more}
use Rattle.screen_coordinates.specs.Coordinates.{coordinates}
use Rattle.screen_coordinates.proofs.put_coordinates.Goals as goal

pub returns : goal.returns
unfolding coordinates
returns c = rw (← c.longitude_at-k.ensures.0, ← c.tag_at-t.ensures, ← c.tag_at-u.ensures) (put_then (put_then c.put_latitude-a.ensures c.put_between-b.ensures) (rw from_more at c.put_longitude.ensures))

pub shape_of-out : goal.shape_of-out
shape_of-out c = put-length (returns c)
