use Rattle.per.proofs.Laws.{one_shl, one-shl_pos}
use Rattle.acse_reasons.proofs.few.cut.Goals as goal

pub nonzero_rem-result : goal.nonzero_rem-result
nonzero_rem-result c = one-shl_pos c.args.n c.requires.1

pub returns : goal.returns
returns c = rw (one_shl c.args.n c.requires.1)
