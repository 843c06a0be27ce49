use Rattle.std.proofs.Common.{◌≡◌, ◌-◌, refl, arith}
use Rattle.schema_nodes.proofs.DepthLaws.{kept-none, named-kept, kept_step, kept-all}
use Rattle.schema_nodes.proofs.depth.depth_fits.Goals as goal

pub loop-k-init : goal.loop-k-init
loop-k-init c = kept-none c.args.nodes.now c.requires _ refl

pub deepest-requires : goal.deepest-requires
deepest-requires c = named-kept c.args.nodes.now c.requires c.loop-k.depths (c.loop-k.k - 1) (omega (arith, c.loop-k-test.true, c.loop-k.auto.k)) (omega (arith, c.if-n-gt-KEPT.false, c.named-named.array_long)) c.node_at.ensures c.named-named.ensures.1 c.named-named.ensures.0

pub loop-k-preserved : goal.loop-k-preserved
loop-k-preserved c = kept_step c.args.nodes.now c.requires c.loop-k-test.true c.loop-k.auto.k c.loop-k.invariant c.node_at.ensures c.named-named.ensures.1 c.named-named.ensures.0 c.deepest.ensures (omega (arith, c.loop-k-test.true, c.loop-k.auto.k, c.named-named.array_long, c.if-n-gt-KEPT.false))

pub returns : goal.returns
returns c = let z : c.loop-k.k ≡ 0 = omega (arith, c.loop-k-test.false) in kept-all c.args.nodes.now c.requires z c.loop-k.invariant
