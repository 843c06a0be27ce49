use native.Mathlib.Omega.{arith}
use Prim.Native.Nat.{◌≤◌}
use lib.ListN.{get_or-eq_default}
use Rattle.screen_records.proofs.FieldLaws.{from_more}
use Rattle.screen_positions.specs.Positions.{position_records}
use Rattle.screen_positions.proofs.position_records.Goals as goal

pub returns-in-0 : goal.returns-in-0
unfolding position_records
returns-in-0 c = (rw (← c.value_at-form.ensures, c.in-0.is, ← (rw from_more at c.named_records.ensures.0)), omega (arith, c.named_records.ensures.1))

pub returns-in-1 : goal.returns-in-1
unfolding position_records
returns-in-1 c = (rw (← c.value_at-form.ensures, c.in-1.is, ← (rw from_more at c.named_records-in-1.ensures.0)), omega (arith, c.named_records-in-1.ensures.1))

pub returns-in-2 : goal.returns-in-2
unfolding position_records
returns-in-2 c = (rw (← c.value_at-form.ensures, c.in-2.is, ← (rw from_more at c.text_records.ensures.0)), omega (arith, c.text_records.ensures.1))

pub returns-in_default : goal.returns-in_default
unfolding position_records
returns-in_default c = let h : 3 ≤ c.value_at-form.result = omega arith in (rw (← c.value_at-form.ensures, get_or-eq_default, ← (rw from_more at c.coordinates_records.ensures.0)), omega (arith, c.coordinates_records.ensures.1))
