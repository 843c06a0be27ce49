use native.Mathlib.Omega.{arith}
use Rattle.runs.proofs.RunLaws.{runs_stayed, runs_within}
use Rattle.told_fields.proofs.RunLaws.{does_runs}
use Rattle.pdu_parts.specs.Parts.{reason_at}
use Rattle.pdu_parts.proofs.reason_part.Goals as goal

pub returns-then-c-ne0 : goal.returns-then-c-ne0
returns-then-c-ne0 c = runs_within 1 _ (omega arith) (runs_stayed _ c.if-c-ne0.true)

pub returns : goal.returns
unfolding reason_at
returns c = does_runs 0 c.if-c-ne0.false c.reason.ensures
