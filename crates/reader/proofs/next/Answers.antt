use Rattle.reader.proofs.Rules.{took_bits, took_none, took_off, took_lost}
use Rattle.reader.proofs.next.Goals as goal

pub returns-then-d-eq0 : goal.returns-then-d-eq0
returns-then-d-eq0 c = took_bits _ _ _ c.bits-g.ensures c.if-at-end.true c.holds.ensures c.if-holds.true c.if-d-eq0.true

pub returns-then-holds : goal.returns-then-holds
returns-then-holds c = took_none _ _ _ c.bits-g.ensures c.if-at-end.true c.holds.ensures c.if-holds.true c.if-d-eq0.false

pub returns-else-holds : goal.returns-else-holds
returns-else-holds c = took_lost _ _ _ c.stop-out.ensures c.holds.ensures c.if-holds.false

pub returns-else-at-end : goal.returns-else-at-end
returns-else-at-end c = took_off _ _ _ c.stop-out.ensures c.if-at-end.false
