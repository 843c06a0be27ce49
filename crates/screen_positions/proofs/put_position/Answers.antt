use native.Mathlib.Omega.{arith}
use Prim.Native.Nat.{◌≤◌}
use lib.ListN.{get_or-eq_default}
use Rattle.screen_bytes.proofs.Putting.{put-within, put-length}
use Rattle.screen_records.proofs.FieldLaws.{from_more}
use Rattle.screen_positions.specs.Positions.{position}
use Rattle.screen_positions.proofs.put_position.Goals as goal

pub returns-in-0 : goal.returns-in-0
unfolding position
returns-in-0 c = rw (← c.value_at-form.ensures, c.in-0.is) (rw from_more at c.put_named.ensures)

pub returns-in-1 : goal.returns-in-1
unfolding position
returns-in-1 c = rw (← c.value_at-form.ensures, c.in-1.is) (rw from_more at c.put_named-in-1.ensures)

pub returns-in-2 : goal.returns-in-2
unfolding position
returns-in-2 c = rw (← c.value_at-form.ensures, c.in-2.is) (put-within 172 (omega arith) (rw from_more at c.put_record_text.ensures))

pub returns-in_default : goal.returns-in_default
unfolding position
returns-in_default c = let h : 3 ≤ c.value_at-form.result = omega arith in rw (← c.value_at-form.ensures, get_or-eq_default) (put-within 172 (omega arith) (rw from_more at c.put_coordinates.ensures))

pub shape_of-out-in-0 : goal.shape_of-out-in-0
shape_of-out-in-0 c = put-length (returns-in-0 c)

pub shape_of-out-in-1 : goal.shape_of-out-in-1
shape_of-out-in-1 c = put-length (returns-in-1 c)

pub shape_of-out-in-2 : goal.shape_of-out-in-2
shape_of-out-in-2 c = put-length (returns-in-2 c)

pub shape_of-out-in_default : goal.shape_of-out-in_default
shape_of-out-in_default c = put-length (returns-in_default c)
