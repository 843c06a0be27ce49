use mathlib.Core.Path.{refl}
use native.Mathlib.Omega.{arith}
use Rattle.x691.specs.Encoding.{count}
use Rattle.records.proofs.Telling.{told-length}
use Rattle.runs.proofs.RunLaws.{runs_within}
use Rattle.pdu_alternatives.proofs.AlternativeLaws.{user_abort, provider_abort, down-start, down_send, no-alternative}
use Rattle.pdu_alternatives.proofs.down_alternative.Goals as goal

pub reason_part-requires : goal.reason_part-requires
reason_part-requires c = (refl, refl, omega (arith, c.requires.1))

pub reason_part-requires-then-index-eq1 : goal.reason_part-requires-then-index-eq1
reason_part-requires-then-index-eq1 c = (refl, refl, omega (arith, c.requires.1))

pub read_protected-requires : goal.read_protected-requires
read_protected-requires c = (c.requires.0, omega (arith, c.requires.1), c.requires.2, c.requires.3)

pub shape_of-words-then-index-eq0 : goal.shape_of-words-then-index-eq0
shape_of-words-then-index-eq0 c = told-length c.reason_part.ensures.told

pub returns-then-index-eq0 : goal.returns-then-index-eq0
returns-then-index-eq0 c = runs_within 236122 _ (omega arith) (user_abort _ _ _ 0 c.if-index-eq0.true c.reason_part.ensures)

pub shape_of-words-then-index-eq1 : goal.shape_of-words-then-index-eq1
shape_of-words-then-index-eq1 c = told-length c.reason_part-then-index-eq1.ensures.told

pub returns-then-index-eq1 : goal.returns-then-index-eq1
returns-then-index-eq1 c = runs_within 236122 _ (omega arith) (provider_abort _ _ _ 0 c.if-index-eq1.true c.reason_part-then-index-eq1.ensures)

pub shape_of-words-then-index-eq2 : goal.shape_of-words-then-index-eq2
shape_of-words-then-index-eq2 c = told-length c.read_start.ensures.told

pub returns-then-index-eq2 : goal.returns-then-index-eq2
returns-then-index-eq2 c = runs_within 236122 _ (omega arith) (down-start _ _ _ c.if-index-eq2.true c.read_start.ensures)

pub shape_of-words-then-index-eq3 : goal.shape_of-words-then-index-eq3
shape_of-words-then-index-eq3 c = told-length c.read_protected.ensures.told

pub returns-then-index-eq3 : goal.returns-then-index-eq3
returns-then-index-eq3 c = runs_within 236122 _ (omega arith) (down_send _ _ _ c.if-index-eq3.true c.read_protected.ensures)

pub returns : goal.returns
unfolding count
returns c = no-alternative 0 _ _ _ (omega (arith, c.if-index-eq0.false, c.if-index-eq1.false, c.if-index-eq2.false, c.if-index-eq3.false)) c.stop-d.ensures
