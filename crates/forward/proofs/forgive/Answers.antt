use Rattle.atn.specs.Reading.{or}
use Rattle.forward.proofs.ForgiveLaws.{forgives_cut, forgives_over, forgives_kept}
use Rattle.forward.proofs.forgive.Goals as goal

pub returns-then-c-eq4 : goal.returns-then-c-eq4
returns-then-c-eq4 c = forgives_cut c.if-c-eq4.true

pub returns-then-c-eq5 : goal.returns-then-c-eq5
unfolding or
returns-then-c-eq5 c = forgives_over c.if-c-eq5.true

pub returns : goal.returns
returns c = forgives_kept c.if-c-eq4.false c.if-c-eq5.false
