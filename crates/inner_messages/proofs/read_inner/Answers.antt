use native.Mathlib.Omega.{arith}
use Rattle.runs.proofs.RunLaws.{runs_stayed, runs_within}
use Rattle.inner_messages.proofs.InnerLaws.{string_lost}
use Rattle.inner_messages.proofs.read_inner.Goals as goal

pub returns-then-c-ne0 : goal.returns-then-c-ne0
returns-then-c-ne0 c = runs_within 236059 _ (omega arith) (runs_stayed _ c.if-c-ne0.true)

pub returns-in-Lost : goal.returns-in-Lost
returns-in-Lost c = string_lost _ c.if-c-ne0.false c.in-Lost.ensures
