use Rattle.schema_nodes.proofs.TestLaws.{link_none, link_room, link_far, link_lower}
use Rattle.schema_nodes.proofs.refusal.link_fits.Goals as goal

pub returns-then-named-eq0 : goal.returns-then-named-eq0
returns-then-named-eq0 c = link_none _ c.args.k c.node_at.ensures c.named-named.ensures.1 c.named-named.ensures.0 c.if-named-eq0.true

pub returns-then-named-all : goal.returns-then-named-all
returns-then-named-all c = link_room _ c.args.k c.node_at.ensures c.named-named.ensures.1 c.named-named.ensures.0 c.if-named-eq0.false c.if-k-named.true c.if-named-all.true

pub returns-else-named-all : goal.returns-else-named-all
returns-else-named-all c = link_far _ c.args.k c.node_at.ensures c.named-named.ensures.1 c.named-named.ensures.0 c.if-named-eq0.false c.if-k-named.true c.if-named-all.false

pub returns-else-k-named : goal.returns-else-k-named
returns-else-k-named c = link_lower _ c.args.k c.node_at.ensures c.named-named.ensures.1 c.named-named.ensures.0 c.if-named-eq0.false c.if-k-named.false
