use mathlib.Core.Path.{refl}
use native.Mathlib.Omega.{arith}
use Rattle.x691.specs.Encoding.{count}
use Rattle.records.proofs.Telling.{told-length}
use Rattle.runs.proofs.RunLaws.{runs_within}
use Rattle.pdu_alternatives.proofs.AlternativeLaws.{user_abort, provider_abort, up-start-or_send, up-forward, up_response, no-alternative}
use Rattle.pdu_alternatives.proofs.up_alternative.Goals as goal

pub reason_part-requires : goal.reason_part-requires
reason_part-requires c = (refl, refl, omega (arith, c.requires.1))

pub reason_part-requires-then-index-eq1 : goal.reason_part-requires-then-index-eq1
reason_part-requires-then-index-eq1 c = (refl, refl, omega (arith, c.requires.1))

pub reason_part-requires-then-index-eq5 : goal.reason_part-requires-then-index-eq5
reason_part-requires-then-index-eq5 c = (refl, refl, omega (arith, c.requires.1))

pub read_protected-requires : goal.read_protected-requires
read_protected-requires c = (c.requires.0, omega (arith, c.requires.1), c.requires.4, c.requires.5)

pub read_forward-requires : goal.read_forward-requires
read_forward-requires c = (c.requires.0, omega (arith, c.requires.1), c.requires.2, c.requires.3, c.requires.4, c.requires.5)

pub shape_of-words-then-index-eq0 : goal.shape_of-words-then-index-eq0
shape_of-words-then-index-eq0 c = told-length c.reason_part.ensures.told

pub returns-then-index-eq0 : goal.returns-then-index-eq0
returns-then-index-eq0 c = runs_within 236122 _ (omega arith) (user_abort _ _ _ 1 c.if-index-eq0.true c.reason_part.ensures)

pub shape_of-words-then-index-eq1 : goal.shape_of-words-then-index-eq1
shape_of-words-then-index-eq1 c = told-length c.reason_part-then-index-eq1.ensures.told

pub returns-then-index-eq1 : goal.returns-then-index-eq1
returns-then-index-eq1 c = runs_within 236122 _ (omega arith) (provider_abort _ _ _ 1 c.if-index-eq1.true c.reason_part-then-index-eq1.ensures)

pub shape_of-words-then-index-lt4 : goal.shape_of-words-then-index-lt4
shape_of-words-then-index-lt4 c = told-length c.read_protected.ensures.told

pub returns-then-index-lt4 : goal.returns-then-index-lt4
returns-then-index-lt4 c = runs_within 236122 _ (omega arith) (up-start-or_send _ _ _ c.if-index-eq0.false c.if-index-eq1.false c.if-index-lt4.true c.read_protected.ensures)

pub shape_of-words-then-index-eq4 : goal.shape_of-words-then-index-eq4
shape_of-words-then-index-eq4 c = told-length c.read_forward.ensures.told

pub returns-then-index-eq4 : goal.returns-then-index-eq4
returns-then-index-eq4 c = runs_within 236122 _ (omega arith) (up-forward _ _ _ c.if-index-eq4.true c.read_forward.ensures)

pub shape_of-words-then-index-eq5 : goal.shape_of-words-then-index-eq5
shape_of-words-then-index-eq5 c = told-length c.reason_part-then-index-eq5.ensures.told

pub returns-then-index-eq5 : goal.returns-then-index-eq5
returns-then-index-eq5 c = runs_within 236122 _ (omega arith) (up_response _ _ _ c.if-index-eq5.true c.reason_part-then-index-eq5.ensures)

pub returns : goal.returns
unfolding count
returns c = no-alternative 1 _ _ _ (omega (arith, c.if-index-lt4.false, c.if-index-eq4.false, c.if-index-eq5.false)) c.stop-d.ensures
