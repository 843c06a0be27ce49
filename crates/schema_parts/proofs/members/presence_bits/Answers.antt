use native.Mathlib.Omega.{arith}
use Rattle.schema_parts.proofs.MemberLaws.{counts-none, counts-more, counts_all, flag_few}
use Rattle.schema_parts.proofs.members.presence_bits.Goals as goal

pub loop-i-init : goal.loop-i-init
loop-i-init c = counts-none c.args.nodes.now c.args.first c.args.count

pub overflow_add-first : goal.overflow_add-first
overflow_add-first c = omega (arith, c.requires)

pub overflow_add-bits : goal.overflow_add-bits
overflow_add-bits c = omega (arith, c.requires, c.loop-i-test.true, c.loop-i.invariant.few, c.flag_of-bits.ensures, flag_few c.node_at-node.result)

pub loop-i-preserved : goal.loop-i-preserved
loop-i-preserved c = counts-more c.args.nodes.now c.args.first c.args.count c.loop-i-test.true c.node_at-node.ensures c.flag_of-bits.ensures c.loop-i.invariant

pub returns : goal.returns
returns c = record { bits = counts_all c.args.nodes.now c.args.first c.args.count c.loop-i-test.false c.loop-i.invariant }
