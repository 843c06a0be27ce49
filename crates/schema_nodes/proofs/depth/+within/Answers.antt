use Rattle.std.proofs.Common.{arith, rules}
use Rattle.schema_nodes.proofs.TestLaws.{rest_all, rest_fails, rest-next, rest-done, within_none, within_bound}
use Rattle.schema_nodes.proofs.depth.+within.Goals as goal

pub returns-then-left-eq0 : goal.returns-then-left-eq0
returns-then-left-eq0 t c = within_none _ c.args.k c.if-left-eq0.true

pub loop-i-init : goal.loop-i-init
loop-i-init t c = rest_all _ c.args.k c.args.left c.if-left-eq0.false c.node_at.ensures c.named-named.ensures.1 c.named-named.ensures.0

pub overflow_add-named : goal.overflow_add-named
overflow_add-named t c =
    omega (arith, within_bound c.args.nodes.now c.args.k c.loop-i.i (search rules) c.requires c.node_at.ensures c.named-named.ensures.1 c.named-named.ensures.0 c.loop-i-test.true)

pub returns-then-not-within : goal.returns-then-not-within
returns-then-not-within t c =
    rest_fails _ c.args.left c.args.k c.named-named.result.first c.named-named.result.count c.loop-i.i c.loop-i.invariant c.loop-i-test.true c.within.ensures c.if-not-within.true

pub loop-i-preserved : goal.loop-i-preserved
loop-i-preserved t c =
    rest-next _ c.args.left c.args.k c.named-named.result.first c.named-named.result.count c.loop-i.i c.loop-i.invariant c.loop-i-test.true c.within.ensures c.if-not-within.false

pub returns : goal.returns
returns t c = rest-done _ c.args.left c.args.k c.named-named.result.first c.named-named.result.count c.loop-i.i c.loop-i.invariant c.loop-i-test.false
