use Rattle.length_determinants.proofs.LengthLaws.{measures_short}
use Rattle.length_determinants.proofs.length.Goals as goal

pub returns-then-short-lt128 : goal.returns-then-short-lt128
returns-then-short-lt128 c = measures_short c.bits-short.ensures c.if-d-eq0.true c.if-short-lt128.true
