use native.Mathlib.Omega.{arith}
use Rattle.records.proofs.Telling.{told-length}
use Rattle.runs.proofs.RunLaws.{runs_stayed, runs_within}
use Rattle.constrained_data.proofs.ConstrainedLaws.{constrained_short, constrained_run}
use Rattle.constrained_data.proofs.read_constrained.Goals as goal

pub returns-then-c-ne0 : goal.returns-then-c-ne0
returns-then-c-ne0 c = runs_within 162834 _ (omega arith) (runs_stayed _ c.if-c-ne0.true)

pub returns-then-d-ne0 : goal.returns-then-d-ne0
returns-then-d-ne0 c = runs_within 162834 _ (omega arith) (constrained_short c.if-c-ne0.false c.read_count-count.ensures c.if-d-ne0.true c.excuse-e.ensures)

pub read_clearances-requires : goal.read_clearances-requires
read_clearances-requires c = (c.requires, c.if-d-ne0.false, c.read_count-count.ensures.few)

pub shape_of-words : goal.shape_of-words
shape_of-words c = told-length c.read_clearances.ensures.runs.told

pub returns : goal.returns
returns c = constrained_run c.if-c-ne0.false c.read_count-count.ensures c.read_clearances.ensures
