use native.Mathlib.Omega.{arith}
use borrow.Author.Tests.{eq-eqb, ne_eqb}
use Rattle.screen_bytes.specs.Text.{bytes}
use Rattle.screen_bytes.proofs.Putting.{put-none, put-within, put-length}
use Rattle.screen_records.proofs.FieldLaws.{from_more}
use Rattle.screen_coordinates.specs.Coordinates.{latitude_sides, latitude}
use Rattle.screen_coordinates.proofs.put_latitude.Goals as goal

pub returns-then-tag_at-eq-LATITUDE : goal.returns-then-tag_at-eq-LATITUDE
unfolding latitude latitude_sides bytes
returns-then-tag_at-eq-LATITUDE c = rw (← c.tag_at.ensures, eq-eqb _ 35 c.if-tag_at-eq-LATITUDE.true) (rw from_more at c.put_angle.ensures)

pub shape_of-out-then-tag_at-eq-LATITUDE : goal.shape_of-out-then-tag_at-eq-LATITUDE
shape_of-out-then-tag_at-eq-LATITUDE c = put-length (returns-then-tag_at-eq-LATITUDE c)

pub returns : goal.returns
unfolding latitude
returns c = rw (← c.tag_at.ensures, ne_eqb _ 35 c.if-tag_at-eq-LATITUDE.false) (put-within 68 (omega arith) put-none)
