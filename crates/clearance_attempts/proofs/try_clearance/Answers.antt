use Rattle.std.proofs.Common.{true, ◌≤◌, ◌<◌, ◌%◌}
use native.Mathlib.Omega.{arith}
use Rattle.runs.proofs.RunLaws.{runs_stayed, runs_within}
use Rattle.runs.proofs.AttemptLaws.{tried_dropped, tried_kept}
use Rattle.records.proofs.Telling.{told-length}
use Rattle.clearance_attempts.proofs.try_clearance.Goals as goal

pub returns-then-c-ne0 : goal.returns-then-c-ne0
returns-then-c-ne0 c = runs_within 81417 _ (omega arith) (runs_stayed _ c.if-c-ne0.true)

pub read_route_clearance-x-requires : goal.read_route_clearance-x-requires
read_route_clearance-x-requires c = omega (arith, c.requires)

pub shape_of-words-in-4-to-5 : goal.shape_of-words-in-4-to-5
shape_of-words-in-4-to-5 c = told-length c.read_route_clearance-x.ensures.told

pub shape_of-words-in_default : goal.shape_of-words-in_default
shape_of-words-in_default c = told-length c.read_route_clearance-x.ensures.told

pub shape_of-words-in_default-2 : goal.shape_of-words-in_default-2
shape_of-words-in_default-2 c = told-length c.read_route_clearance-x.ensures.told

pub returns-in-4-to-5 : goal.returns-in-4-to-5
returns-in-4-to-5 c =
    let low : 4 ≤ c.read_route_clearance-x.result.c.why % 16 = omega arith in
    let high : c.read_route_clearance-x.result.c.why % 16 < 6 = omega arith in
    rw (c.excuse-e.ensures.given low (omega arith))
    (runs_within 81417 _ (omega arith) (tried_dropped 7 true c.read_route_clearance-x.ensures c.if-c-ne0.false low (omega arith)))

pub returns-in_default : goal.returns-in_default
returns-in_default c = tried_kept 7 true c.read_route_clearance-x.ensures (λ l h. omega arith)

pub returns-in_default-2 : goal.returns-in_default-2
returns-in_default-2 c = tried_kept 7 true c.read_route_clearance-x.ensures (λ l h. omega arith)
