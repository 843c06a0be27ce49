use native.Mathlib.Omega.{arith}
use Rattle.atn.specs.Reading.{or}
use Rattle.records.proofs.Telling.{told-length}
use Rattle.integrity.proofs.IntegrityLaws.{integrity_lost, integrity-cut, integrity-over, integrity-none, integrity-some}
use Rattle.integrity.proofs.read_integrity.Goals as goal

pub returns-then-c-ne0 : goal.returns-then-c-ne0
returns-then-c-ne0 c = integrity_lost c.if-c-ne0.true

pub length-l-requires : goal.length-l-requires
length-l-requires c = c.requires.0

pub returns-then-end-eq4 : goal.returns-then-end-eq4
returns-then-end-eq4 c = integrity-cut c.length-l.ensures c.pass-end.ensures c.if-c-ne0.false c.if-end-eq4.true

pub returns-then-end-eq5 : goal.returns-then-end-eq5
unfolding or
returns-then-end-eq5 c = integrity-over c.length-l.ensures c.pass-end.ensures c.if-c-ne0.false c.if-end-eq5.true

pub returns-then-l-eq0 : goal.returns-then-l-eq0
returns-then-l-eq0 c = integrity-none c.length-l.ensures c.pass-end.ensures c.if-c-ne0.false c.if-end-eq4.false c.if-end-eq5.false c.if-l-eq0.true

pub emit-m-requires : goal.emit-m-requires
emit-m-requires c = omega (arith, c.requires.1)

pub shape_of-words : goal.shape_of-words
shape_of-words c = told-length c.emit-m.ensures

pub returns : goal.returns
returns c = integrity-some c.length-l.ensures c.pass-end.ensures c.if-c-ne0.false c.if-end-eq4.false c.if-end-eq5.false c.if-l-eq0.false c.emit-m.ensures

pub pass-end-requires : goal.pass-end-requires
pass-end-requires c = omega (arith, c.length-l.ensures.few)
