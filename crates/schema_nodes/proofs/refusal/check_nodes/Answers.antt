use Rattle.std.proofs.Common.{sym, ◌∙◌}
use Rattle.schema_nodes.proofs.TestLaws.{no_kinds, no_links, too_deep, all-fits}
use Rattle.schema_nodes.proofs.refusal.check_nodes.Goals as goal

pub returns-then-not-kinds_fit : goal.returns-then-not-kinds_fit
returns-then-not-kinds_fit c = no_kinds _ c.kinds_fit.ensures c.if-not-kinds_fit.true

pub returns-then-not-links_fit : goal.returns-then-not-links_fit
returns-then-not-links_fit c = no_links _ c.kinds_fit.ensures c.if-not-kinds_fit.false c.links_fit.ensures c.if-not-links_fit.true

pub depth_fits-requires : goal.depth_fits-requires
depth_fits-requires c = sym c.links_fit.ensures ∙ c.if-not-links_fit.false

pub returns-then-not-depth_fits : goal.returns-then-not-depth_fits
returns-then-not-depth_fits c = too_deep _ c.kinds_fit.ensures c.if-not-kinds_fit.false c.links_fit.ensures c.if-not-links_fit.false c.depth_fits.ensures c.if-not-depth_fits.true

pub returns : goal.returns
returns c = all-fits _ c.kinds_fit.ensures c.if-not-kinds_fit.false c.links_fit.ensures c.if-not-links_fit.false c.depth_fits.ensures c.if-not-depth_fits.false
