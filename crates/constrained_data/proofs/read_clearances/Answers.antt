use native.Mathlib.Omega.{arith}
use Rattle.records.proofs.Telling.{told-then, told-length}
use Rattle.constrained_data.proofs.ConstrainedLaws.{clears_none, clears_one, clears_both, clears_passed, clears_stopped}
use Rattle.constrained_data.proofs.read_clearances.Goals as goal

pub returns-then-count-eq0 : goal.returns-then-count-eq0
returns-then-count-eq0 c = clears_none c.requires.1 c.if-count-eq0.true

pub try_clearance-first-requires : goal.try_clearance-first-requires
try_clearance-first-requires c = omega (arith, c.requires.0)

pub shape_of-words-then-count-eq1 : goal.shape_of-words-then-count-eq1
shape_of-words-then-count-eq1 c = told-length c.try_clearance-first.ensures.told

pub returns-then-count-eq1 : goal.returns-then-count-eq1
returns-then-count-eq1 c = clears_one c.requires.1 c.try_clearance-first.ensures (omega arith) c.if-count-eq1.true

pub try_clearance-requires : goal.try_clearance-requires
try_clearance-requires c = omega (arith, c.requires.0, c.try_clearance-first.ensures.told.few)

pub shape_of-words-then-d-eq0 : goal.shape_of-words-then-d-eq0
shape_of-words-then-d-eq0 c = told-length (told-then c.try_clearance-first.ensures.told c.try_clearance.ensures.told)

pub returns-then-d-eq0 : goal.returns-then-d-eq0
returns-then-d-eq0 c = clears_both c.requires.1 c.try_clearance-first.ensures (omega arith) (omega (arith, c.requires.2, c.if-count-eq0.false, c.if-count-eq1.false)) c.if-d-eq0.true c.try_clearance.ensures

pub emit-m-requires : goal.emit-m-requires
emit-m-requires c = omega (arith, c.requires.0, c.try_clearance-first.ensures.told.few)

pub shape_of-words-then-d-eq7 : goal.shape_of-words-then-d-eq7
shape_of-words-then-d-eq7 c = told-length (told-then c.try_clearance-first.ensures.told c.emit-m.ensures)

pub returns-then-d-eq7 : goal.returns-then-d-eq7
returns-then-d-eq7 c = clears_passed c.requires.1 c.try_clearance-first.ensures (omega arith) (omega (arith, c.requires.2, c.if-count-eq0.false, c.if-count-eq1.false)) c.if-d-eq7.true c.emit-m.ensures

pub shape_of-words : goal.shape_of-words
shape_of-words c = told-length c.try_clearance-first.ensures.told

pub returns : goal.returns
returns c = clears_stopped c.requires.1 c.try_clearance-first.ensures (omega arith) (omega (arith, c.requires.2, c.if-count-eq0.false, c.if-count-eq1.false)) c.if-d-eq0.false c.if-d-eq7.false
