use native.Mathlib.Omega.{arith}
use borrow.Author.Tests.{eq-eqb, ne_eqb}
use Rattle.screen_records.proofs.FieldLaws.{from_more}
use Rattle.screen_positions.specs.Positions.{named_records}
use Rattle.screen_positions.proofs.named_records.Goals as goal

pub returns-then-tag_at-eq-COORDINATES : goal.returns-then-tag_at-eq-COORDINATES
unfolding named_records
returns-then-tag_at-eq-COORDINATES c = (rw (← c.text_records-k.ensures.0, ← c.tag_at.ensures, eq-eqb _ 34 c.if-tag_at-eq-COORDINATES.true, ← (rw from_more at c.coordinates_records.ensures.0)), omega (arith, c.text_records-k.ensures.1, c.coordinates_records.ensures.1))

pub returns : goal.returns
unfolding named_records
returns c = (rw (← c.text_records-k.ensures.0, ← c.tag_at.ensures, ne_eqb _ 34 c.if-tag_at-eq-COORDINATES.false) (omega arith), omega (arith, c.text_records-k.ensures.1))
