use native.Mathlib.Omega.{arith}
use Prim.Native.Nat.{◌≤◌}
use Rattle.screen_bytes.specs.Text.{bytes, degree_sign}
use Rattle.screen_bytes.proofs.Putting.{put_then, put-within, put-length}
use Rattle.screen_coordinates.specs.Coordinates.{angle}
use lib.ListN.{get_or-eq_default}
use Rattle.screen_coordinates.proofs.put_angle.Goals as goal

pub put_byte-f-requires : goal.put_byte-f-requires
put_byte-f-requires c = omega (arith, c.requires.0, c.put_decimal-a-in_default.ensures.few, c.put_text-b-in_default.ensures.few, c.put_decimal-c.ensures.few, c.put_byte-d-in_default.ensures.few, c.put_decimal-e.ensures.few)

pub value_at-requires-in_default-2 : goal.value_at-requires-in_default-2
value_at-requires-in_default-2 c = (omega (arith, c.requires.1), omega arith)

pub put_line-requires-in_default : goal.put_line-requires-in_default
put_line-requires-in_default c = (omega (arith, c.requires.0, c.put_decimal-a-in_default.ensures.few, c.put_text-b-in_default.ensures.few, c.put_decimal-c.ensures.few, c.put_byte-d-in_default.ensures.few, c.put_decimal-e.ensures.few, c.put_byte-f.ensures.few), omega (arith, c.requires.2))

pub returns-in-0 : goal.returns-in-0
unfolding angle degree_sign bytes
returns-in-0 c = rw (← c.value_at-form.ensures, ← c.value_at-x.ensures, ← c.value_at-y.ensures, c.in-0.is) (put-within _ (omega arith) (put_then (put_then c.put_thousandths-a.ensures c.put_text-b.ensures) c.put_line.ensures))

pub returns-in-1 : goal.returns-in-1
unfolding angle degree_sign bytes
returns-in-1 c = rw (← c.value_at-form.ensures, ← c.value_at-x.ensures, ← c.value_at-y.ensures, ← c.value_at.ensures, c.in-1.is) (put-within _ (omega arith) (put_then (put_then (put_then (put_then c.put_decimal-a.ensures c.put_text-b-in-1.ensures) c.put_hundredths-c.ensures) c.put_byte-d.ensures) c.put_line-in-1.ensures))

pub returns-in_default : goal.returns-in_default
unfolding angle degree_sign bytes
returns-in_default c = let h : 2 ≤ c.value_at-form.result = omega (arith, c.in_default) in rw (← c.value_at-form.ensures, ← c.value_at-x.ensures, ← c.value_at-y.ensures, ← c.value_at-in_default.ensures, ← c.value_at-in_default-2.ensures, get_or-eq_default) (put-within _ (omega arith) (put_then (put_then (put_then (put_then (put_then (put_then c.put_decimal-a-in_default.ensures c.put_text-b-in_default.ensures) c.put_decimal-c.ensures) c.put_byte-d-in_default.ensures) c.put_decimal-e.ensures) c.put_byte-f.ensures) c.put_line-in_default.ensures))

pub shape_of-out-in-0 : goal.shape_of-out-in-0
shape_of-out-in-0 c = put-length (returns-in-0 c)

pub shape_of-out-in-1 : goal.shape_of-out-in-1
shape_of-out-in-1 c = put-length (returns-in-1 c)

pub shape_of-out-in_default : goal.shape_of-out-in_default
shape_of-out-in_default c = put-length (returns-in_default c)
