use Rattle.std.proofs.Common.{◌≡◌, ◌/◌, length, sym, refl, ◌∙◌, arith}
use Rattle.schema_tables.specs.Tests.{link_fits}
use Rattle.schema_nodes.proofs.TestLaws.{below_none, below_next, below_fails, links_empty, links_all}
use Rattle.schema_nodes.proofs.refusal.links_fit.Goals as goal

pub returns-then-n-eq0 : goal.returns-then-n-eq0
returns-then-n-eq0 c = links_empty _ refl c.if-n-eq0.true

pub loop-k-init : goal.loop-k-init
loop-k-init c = below_none (λ j. link_fits c.args.nodes.now j)

pub returns : goal.returns
returns c = let e : c.loop-k.k ≡ length c.args.nodes.now / 4 = omega (arith, c.loop-k-test.false) in links_all c.args.nodes.now e (λ z. c.if-n-eq0.false (omega arith)) c.loop-k.invariant

pub returns-then-not-link_fits : goal.returns-then-not-link_fits
returns-then-not-link_fits c = links_all c.args.nodes.now refl c.if-n-eq0.false (below_fails (λ j. link_fits c.args.nodes.now j) c.loop-k.k _ c.loop-k-test.true (sym c.link_fits.ensures ∙ c.if-not-link_fits.true))

pub loop-k-preserved : goal.loop-k-preserved
loop-k-preserved c = below_next (λ j. link_fits c.args.nodes.now j) c.loop-k.k c.loop-k.invariant (sym c.link_fits.ensures ∙ c.if-not-link_fits.false)
