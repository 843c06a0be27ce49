use Rattle.positions.proofs.UnreadLaws.{flag_clear, flag_set}
use Rattle.positions.proofs.read_flag.Goals as goal

pub returns-then-flag-eq0 : goal.returns-then-flag-eq0
returns-then-flag-eq0 c = flag_clear c.bits-flag.result c.bits-flag.ensures c.if-flag-eq0.true

pub returns : goal.returns
returns c = flag_set c.bits-flag.result c.bits-flag.ensures c.if-flag-eq0.false c.mark.ensures
