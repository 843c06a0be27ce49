use native.Mathlib.Omega.{arith}
use borrow.Author.Tests.{eq-eqb, ne_eqb}
use Rattle.screen_records.proofs.FieldLaws.{from_more}
use Rattle.screen_coordinates.specs.Coordinates.{coordinates_records}
use Rattle.screen_coordinates.proofs.coordinates_records.Goals as goal

pub returns-then-tag_at-eq-LONGITUDE : goal.returns-then-tag_at-eq-LONGITUDE
unfolding coordinates_records
returns-then-tag_at-eq-LONGITUDE c = (rw (← c.longitude_at-k.ensures.0, ← c.tag_at.ensures, eq-eqb _ 42 c.if-tag_at-eq-LONGITUDE.true, ← (rw from_more at c.angle_records.ensures.0)), omega (arith, c.longitude_at-k.ensures.1, c.angle_records.ensures.1))

pub returns : goal.returns
unfolding coordinates_records
returns c = (rw (← c.longitude_at-k.ensures.0, ← c.tag_at.ensures, ne_eqb _ 42 c.if-tag_at-eq-LONGITUDE.false) (omega arith), omega (arith, c.longitude_at-k.ensures.1))
