use mathlib.Core.Bool.{false}
use native.Mathlib.Omega.{arith}
use Rattle.atn.specs.Reading.{or, mark}
use Rattle.runs.proofs.RunLaws.{runs_stayed, runs_within}
use Rattle.runs.proofs.AttemptLaws.{tried_dropped, tried_kept}
use Rattle.records.proofs.Telling.{told-length}
use Rattle.inner_messages.specs.Parts.{lax_data}
use Rattle.inner_messages.proofs.try_data.Goals as goal

pub returns-then-c-ne0 : goal.returns-then-c-ne0
returns-then-c-ne0 c = runs_within 236050 _ (omega arith) (runs_stayed _ c.if-c-ne0.true)

pub read_data-x-requires : goal.read_data-x-requires
read_data-x-requires c =
    let pre = c.requires in
    (omega (arith, pre.0), pre.1, pre.2)

pub shape_of-words-in-4-to-5 : goal.shape_of-words-in-4-to-5
shape_of-words-in-4-to-5 c = told-length c.read_data-x.ensures.told

pub shape_of-words-in_default : goal.shape_of-words-in_default
shape_of-words-in_default c = told-length c.read_data-x.ensures.told

pub shape_of-words-in_default-2 : goal.shape_of-words-in_default-2
shape_of-words-in_default-2 c = told-length c.read_data-x.ensures.told

pub returns-in-4-to-5 : goal.returns-in-4-to-5
unfolding lax_data or mark
returns-in-4-to-5 c = runs_within 236050 _ (omega arith) (tried_dropped 7 false c.read_data-x.ensures c.if-c-ne0.false (omega arith) (omega arith))

pub returns-in_default : goal.returns-in_default
unfolding lax_data
returns-in_default c = tried_kept 7 false c.read_data-x.ensures (λ l h. omega arith)

pub returns-in_default-2 : goal.returns-in_default-2
unfolding lax_data
returns-in_default-2 c = tried_kept 7 false c.read_data-x.ensures (λ l h. omega arith)
