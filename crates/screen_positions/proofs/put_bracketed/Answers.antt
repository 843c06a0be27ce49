use native.Mathlib.Omega.{arith}
use borrow.Author.Tests.{eq-eqb, ne_eqb}
use Rattle.screen_bytes.specs.Text.{bytes}
use Rattle.screen_bytes.proofs.Putting.{put-none, put_then, put-within, put-length}
use Rattle.screen_positions.specs.Positions.{bracketed}
use Rattle.screen_positions.proofs.put_bracketed.Goals as goal

pub returns-then-tag_at-ne-COORDINATES : goal.returns-then-tag_at-ne-COORDINATES
unfolding bracketed
returns-then-tag_at-ne-COORDINATES c = rw (← c.tag_at.ensures, ne_eqb _ 34 c.if-tag_at-ne-COORDINATES.true) (put-within 140 (omega arith) put-none)

pub returns : goal.returns
unfolding bracketed bytes
returns c = rw (← c.tag_at.ensures, eq-eqb _ 34 c.if-tag_at-ne-COORDINATES.false) (put_then (put_then c.put_text-a.ensures c.put_coordinates-b.ensures) c.put_byte.ensures)

pub shape_of-out : goal.shape_of-out
shape_of-out c = put-length (returns c)
