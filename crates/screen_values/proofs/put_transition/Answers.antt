use native.Mathlib.Omega.{arith}
use Rattle.screen_bytes.specs.Text.{bytes}
use Rattle.screen_bytes.proofs.Putting.{put-none, put_then, put-within, put-length}
use borrow.Author.Tests.{eq-eqb, ne_eqb}
use Rattle.screen_values.specs.Values.{transition}
use Rattle.screen_values.proofs.put_transition.Goals as goal

pub returns-then-tag_at-ne-PROCEDURE_TRANSITION : goal.returns-then-tag_at-ne-PROCEDURE_TRANSITION
unfolding transition bytes
returns-then-tag_at-ne-PROCEDURE_TRANSITION c = rw (← c.tag_at.ensures, ne_eqb _ 67 c.if-tag_at-ne-PROCEDURE_TRANSITION.true) (put-within 44 (omega arith) put-none)

pub returns : goal.returns
unfolding transition bytes
returns c = rw (← c.tag_at.ensures, eq-eqb _ 67 c.if-tag_at-ne-PROCEDURE_TRANSITION.false) (put_then c.put_text-m.ensures c.put_record_text.ensures)

pub shape_of-out : goal.shape_of-out
shape_of-out c = put-length (returns c)
