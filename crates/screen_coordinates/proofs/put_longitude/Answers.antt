use native.Mathlib.Omega.{arith}
use borrow.Author.Tests.{eq-eqb, ne_eqb}
use Rattle.screen_bytes.specs.Text.{bytes}
use Rattle.screen_bytes.proofs.Putting.{put-none, put-within, put-length}
use Rattle.screen_coordinates.specs.Coordinates.{longitude_sides, longitude}
use Rattle.screen_coordinates.proofs.put_longitude.Goals as goal

pub returns-then-tag_at-eq-LONGITUDE : goal.returns-then-tag_at-eq-LONGITUDE
unfolding longitude longitude_sides bytes
returns-then-tag_at-eq-LONGITUDE c = rw (← c.tag_at.ensures, eq-eqb _ 42 c.if-tag_at-eq-LONGITUDE.true) c.put_angle.ensures

pub shape_of-out-then-tag_at-eq-LONGITUDE : goal.shape_of-out-then-tag_at-eq-LONGITUDE
shape_of-out-then-tag_at-eq-LONGITUDE c = put-length (returns-then-tag_at-eq-LONGITUDE c)

pub returns : goal.returns
unfolding longitude
returns c = rw (← c.tag_at.ensures, ne_eqb _ 42 c.if-tag_at-eq-LONGITUDE.false) (put-within 68 (omega arith) put-none)
