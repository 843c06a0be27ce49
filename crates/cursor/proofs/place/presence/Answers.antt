use Rattle.cursor.proofs.Rules.{opens_stuck, opens_got, opens-short}
use Rattle.cursor.proofs.place.presence.Goals as goal

pub returns-then-c-ne0 : goal.returns-then-c-ne0
returns-then-c-ne0 c = opens_stuck _ _ _ c.bits-g.ensures c.if-c-ne0.true

pub returns-then-d-eq0 : goal.returns-then-d-eq0
returns-then-d-eq0 c = opens_got _ _ _ c.bits-g.ensures c.if-c-ne0.false c.if-d-eq0.true

pub returns : goal.returns
returns c = opens-short _ _ _ c.bits-g.ensures c.if-c-ne0.false c.if-d-eq0.false
