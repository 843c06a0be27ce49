use native.Mathlib.Omega.{arith}
use borrow.Author.Tests.{eq-eqb, ne_eqb}
use Rattle.screen_records.proofs.FieldLaws.{from_more}
use Rattle.screen_coordinates.specs.Coordinates.{longitude_at}
use Rattle.screen_coordinates.proofs.longitude_at.Goals as goal

pub returns-then-tag_at-eq-LATITUDE : goal.returns-then-tag_at-eq-LATITUDE
unfolding longitude_at
returns-then-tag_at-eq-LATITUDE c = (rw (← c.tag_at.ensures, eq-eqb _ 35 c.if-tag_at-eq-LATITUDE.true, ← (rw from_more at c.angle_records.ensures.0)), omega (arith, c.angle_records.ensures.1))

pub returns : goal.returns
unfolding longitude_at
returns c = (rw (← c.tag_at.ensures, ne_eqb _ 35 c.if-tag_at-eq-LATITUDE.false), omega arith)
