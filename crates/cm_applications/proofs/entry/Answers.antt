use Rattle.cm_applications.proofs.ListLaws.{entry-plain, entry-addressed}
use Rattle.cm_applications.proofs.entry.Goals as goal

pub returns-then-addressed : goal.returns-then-addressed
returns-then-addressed c = entry-addressed c.ranged-qualifier.ensures c.ranged-version.ensures c.tell_entry-n.ensures c.if-addressed.true c.refuse.ensures

pub returns : goal.returns
returns c = entry-plain c.ranged-qualifier.ensures c.ranged-version.ensures c.tell_entry-n.ensures c.if-addressed.false
