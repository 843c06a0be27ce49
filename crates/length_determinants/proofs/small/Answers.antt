use Rattle.length_determinants.proofs.LengthLaws.{smalls_six, smalls_octets}
use Rattle.length_determinants.proofs.small.Goals as goal

pub returns-then-form-eq0 : goal.returns-then-form-eq0
returns-then-form-eq0 c = smalls_six c.bits-form.ensures c.if-form-eq0.true c.bits.ensures

pub returns : goal.returns
returns c =
    smalls_octets c.bits-form.ensures c.if-form-eq0.false c.length-l.ensures c.last_eight.ensures
