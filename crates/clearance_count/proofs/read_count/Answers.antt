use Rattle.clearance_count.proofs.CountLaws.{counts-extended, counts-absent, counts-one, counts_two}
use Rattle.clearance_count.proofs.read_count.Goals as goal

pub returns-then-extension-ne0 : goal.returns-then-extension-ne0
returns-then-extension-ne0 c = counts-extended c.bits-extension.result c.bits-extension.ensures c.if-extension-ne0.true c.mark-d.ensures

pub returns-then-has-eq0 : goal.returns-then-has-eq0
returns-then-has-eq0 c = counts-absent c.bits-extension.result c.bits-extension.ensures c.bits-has.result c.if-extension-ne0.false c.bits-has.ensures c.if-has-eq0.true

pub returns-then-count-eq1 : goal.returns-then-count-eq1
returns-then-count-eq1 c = counts-one c.bits-extension.result c.bits-extension.ensures c.bits-has.result c.if-extension-ne0.false c.bits-has.ensures c.if-has-eq0.false c.size-count.ensures c.if-count-eq1.true

pub returns : goal.returns
returns c = counts_two c.bits-extension.result c.bits-extension.ensures c.bits-has.result c.if-extension-ne0.false c.bits-has.ensures c.if-has-eq0.false c.size-count.ensures c.if-count-eq1.false
