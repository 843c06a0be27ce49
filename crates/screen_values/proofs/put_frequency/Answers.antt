use native.Mathlib.Omega.{arith}
use Rattle.screen_bytes.specs.Text.{bytes}
use Rattle.screen_bytes.proofs.Putting.{put_then, put-within, put-length}
use Prim.Native.Nat.{◌≤◌}
use Rattle.screen_records.proofs.FieldLaws.{from_more}
use Rattle.screen_values.specs.Values.{frequency}
use lib.ListN.{get_or-eq_default}
use Rattle.screen_values.proofs.put_frequency.Goals as goal

pub returns-in-0 : goal.returns-in-0
unfolding frequency bytes
returns-in-0 c = rw (← c.value_at-form.ensures, ← c.value_at-n.ensures, c.in-0.is) (put-within 36 (omega arith) (put_then c.put_decimal-m.ensures c.put_text.ensures))

pub returns-in-1 : goal.returns-in-1
unfolding frequency bytes
returns-in-1 c = rw (← c.value_at-form.ensures, ← c.value_at-n.ensures, c.in-1.is, ← c.magnitude.ensures.0) (put-within 36 (omega arith) (put_then c.put_thousandths-m.ensures c.put_text-in-1.ensures))

pub returns-in-2 : goal.returns-in-2
unfolding frequency bytes
returns-in-2 c = rw (← c.value_at-form.ensures, ← c.value_at-n.ensures, c.in-2.is, ← c.magnitude-in-2.ensures.0) (put-within 36 (omega arith) (put_then c.put_thousandths-m-in-2.ensures c.put_text-in-2.ensures))

pub returns-in_default : goal.returns-in_default
unfolding frequency bytes
returns-in_default c = let h : 3 ≤ c.value_at-form.result = omega (arith, c.in_default) in rw (← c.value_at-form.ensures, ← c.value_at-n.ensures, get_or-eq_default) (put-within 36 (omega arith) (put_then c.put_text-m.ensures (rw from_more at c.put_record_text.ensures)))

pub shape_of-out-in-0 : goal.shape_of-out-in-0
shape_of-out-in-0 c = put-length (returns-in-0 c)

pub shape_of-out-in-1 : goal.shape_of-out-in-1
shape_of-out-in-1 c = put-length (returns-in-1 c)

pub shape_of-out-in-2 : goal.shape_of-out-in-2
shape_of-out-in-2 c = put-length (returns-in-2 c)

pub shape_of-out-in_default : goal.shape_of-out-in_default
shape_of-out-in_default c = put-length (returns-in_default c)
