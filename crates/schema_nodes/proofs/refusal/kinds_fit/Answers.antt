use Rattle.std.proofs.Common.{◌≡◌, ◌/◌, length, refl, ◌∙◌, arith}
use Rattle.schema_tables.specs.Tests.{node_fits}
use Rattle.schema_nodes.proofs.TestLaws.{below_none, below_next, below_fails, kinds_odd, kinds-all, node_kind}
use Rattle.schema_nodes.proofs.refusal.kinds_fit.Goals as goal

pub returns-then-nodes-ne0 : goal.returns-then-nodes-ne0
returns-then-nodes-ne0 c = kinds_odd _ c.if-nodes-ne0.true

pub loop-k-init : goal.loop-k-init
loop-k-init c = below_none (λ j. node_fits c.args.nodes.now j)

pub returns : goal.returns
returns c = let e : c.loop-k.k ≡ length c.args.nodes.now / 4 = omega (arith, c.loop-k-test.false) in kinds-all c.args.nodes.now c.if-nodes-ne0.false e c.loop-k.invariant

pub returns-then-not-fits : goal.returns-then-not-fits
returns-then-not-fits c = kinds-all c.args.nodes.now c.if-nodes-ne0.false refl (below_fails (λ j. node_fits c.args.nodes.now j) c.loop-k.k _ c.loop-k-test.true (node_kind c.args.nodes.now c.loop-k.k c.node_at.ensures c.fits.ensures ∙ c.if-not-fits.true))

pub loop-k-preserved : goal.loop-k-preserved
loop-k-preserved c = below_next (λ j. node_fits c.args.nodes.now j) c.loop-k.k c.loop-k.invariant (node_kind c.args.nodes.now c.loop-k.k c.node_at.ensures c.fits.ensures ∙ c.if-not-fits.false)
