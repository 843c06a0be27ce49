use Rattle.clearances.proofs.ClearanceLaws.{clipped_none, clipped_some}
use Rattle.clearances.proofs.read_clipped.Goals as goal

pub returns-then-flags-eq0 : goal.returns-then-flags-eq0
returns-then-flags-eq0 c = clipped_none c.args.place c.requires.1 c.requires.2 c.rest-flags.ensures c.if-flags-eq0.true c.at_end-d.ensures c.emit-m.ensures

pub returns : goal.returns
returns c = clipped_some c.args.place c.requires.1 c.requires.2 c.rest-flags.ensures c.if-flags-eq0.false c.at_end-d-2.ensures
