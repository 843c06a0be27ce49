use native.Mathlib.Omega.{arith}
use Rattle.screen_coordinates.specs.Coordinates.{angle_records}
use Rattle.screen_coordinates.proofs.angle_records.Goals as goal

pub returns-then-form-lt2 : goal.returns-then-form-lt2
unfolding angle_records
returns-then-form-lt2 c = (rw (← c.value_at-form.ensures) (omega arith), omega arith)

pub returns : goal.returns
unfolding angle_records
returns c = (rw (← c.value_at-form.ensures) (omega arith), omega arith)
