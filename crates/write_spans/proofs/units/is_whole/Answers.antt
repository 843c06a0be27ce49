-- `write_spans::units::is_whole` meets its contract.
use Rattle.write_spans.proofs.RecordLaws.{whole_same, whole_other}
use Rattle.write_spans.proofs.units.is_whole.Goals as goal

pub returns-then-words-k : goal.returns-then-words-k
returns-then-words-k c = whole_same c.args.records.words.now c.args.i c.args.element c.args.w c.if-words-k.true

pub returns : goal.returns
returns c = whole_other c.args.records.words.now c.args.i c.args.element c.args.w c.if-words-k.false
