use Rattle.std.proofs.Common.{◌≡◌, arith, rules}
use Rattle.schema_nodes.proofs.DepthLaws.{upto_none, upto_more, upto_all}
use Rattle.schema_nodes.proofs.depth.deepest.Goals as goal

pub loop-i-init : goal.loop-i-init
loop-i-init c = upto_none c.args.depths.now c.args.first

pub loop-i-preserved : goal.loop-i-preserved
loop-i-preserved c = upto_more c.args.depths.now c.args.first (search rules) c.loop-i.invariant

pub returns : goal.returns
returns c = let e : c.loop-i.i ≡ c.args.count = omega (arith, c.loop-i-test.false, c.loop-i.auto.i-end) in upto_all c.args.depths.now c.args.first c.args.count c.min.ensures (rw e at c.loop-i.invariant)
