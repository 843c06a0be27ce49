use native.Mathlib.Omega.{arith}
use Rattle.atn.specs.Format.{lack}
use Rattle.told_fields.proofs.DoesLaws.{does_none, does_some, does_refused}
use Rattle.cm_logon.proofs.maybe_facility.Goals as goal

pub returns-then-has-eq0 : goal.returns-then-has-eq0
returns-then-has-eq0 c = λ s w. does_none 0 c.if-has-eq0.true

pub returns : goal.returns
returns c = λ s w. does_some c.if-has-eq0.false (does_refused lack 0 (λ z. omega arith) c.refuse.ensures)
