use native.Mathlib.Omega.{arith}
use borrow.Author.Tests.{eq-eqb, ne_eqb}
use Rattle.screen_bytes.specs.Text.{bytes}
use Rattle.screen_bytes.proofs.Putting.{put-none, put-within, put-length}
use Rattle.screen_coordinates.specs.Coordinates.{between}
use Rattle.screen_coordinates.proofs.put_between.Goals as goal

pub returns-then-u-eq-LONGITUDE : goal.returns-then-u-eq-LONGITUDE
unfolding between bytes
returns-then-u-eq-LONGITUDE c = rw (eq-eqb _ 35 c.if-t-eq-LATITUDE.true, eq-eqb _ 42 c.if-u-eq-LONGITUDE.true) c.put_byte.ensures

pub shape_of-out-then-u-eq-LONGITUDE : goal.shape_of-out-then-u-eq-LONGITUDE
shape_of-out-then-u-eq-LONGITUDE c = put-length (returns-then-u-eq-LONGITUDE c)

pub returns-else-u-eq-LONGITUDE : goal.returns-else-u-eq-LONGITUDE
unfolding between
returns-else-u-eq-LONGITUDE c = rw (eq-eqb _ 35 c.if-t-eq-LATITUDE.true, ne_eqb _ 42 c.if-u-eq-LONGITUDE.false) (put-within 1 (omega arith) put-none)

pub returns-else-t-eq-LATITUDE : goal.returns-else-t-eq-LATITUDE
unfolding between
returns-else-t-eq-LATITUDE c = rw (ne_eqb _ 35 c.if-t-eq-LATITUDE.false) (put-within 1 (omega arith) put-none)
