use native.Mathlib.Omega.{arith}
use Rattle.screen_bytes.specs.Text.{bytes}
use Rattle.screen_bytes.proofs.Putting.{put_then, put-within, put-length}
use Rattle.screen_records.proofs.FieldLaws.{from_more}
use Rattle.screen_values.specs.Words.{procedure_types}
use Rattle.screen_values.specs.Values.{procedure}
use Rattle.screen_values.proofs.put_procedure.Goals as goal

pub returns : goal.returns
unfolding procedure procedure_types bytes
returns c = rw (← c.value_at.ensures, ← (rw from_more at c.text_records-k.ensures.0)) (put-within 128 (omega arith) (put_then (put_then (put_then (put_then (rw from_more at c.put_record_text-a.ensures) c.put_text-b.ensures) c.put_line-c.ensures) c.put_byte-d.ensures) (rw from_more at c.put_transition.ensures)))

pub shape_of-out : goal.shape_of-out
shape_of-out c = put-length (returns c)
