use Rattle.element_kinds.proofs.KindLaws.{kind_is}
use Rattle.element_kinds.proofs.kind_at.Goals as goal

pub returns : goal.returns
returns c = let e = c.args in kind_is e.words.now e.i c.record_at-first.ensures c.record_at-second.ensures c.kind_by.ensures
