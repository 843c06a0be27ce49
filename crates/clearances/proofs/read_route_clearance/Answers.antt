use native.Mathlib.Omega.{arith}
use Rattle.records.proofs.Telling.{told-then, told-length}
use Rattle.runs.proofs.RunLaws.{runs_stayed, runs_within}
use Rattle.clearances.proofs.ClearanceLaws.{clearance-whole, clearance-short}
use Rattle.clearances.proofs.read_route_clearance.Goals as goal

pub emit-m-requires : goal.emit-m-requires
emit-m-requires c = omega (arith, c.requires)

pub read_fields-requires : goal.read_fields-requires
read_fields-requires c = omega (arith, c.requires, c.emit-m.ensures.few)

pub shape_of-words-then-d-eq0 : goal.shape_of-words-then-d-eq0
shape_of-words-then-d-eq0 c = told-length (told-then c.emit-m.ensures (c.read_fields.ensures.run 0).told)

pub returns-then-d-eq0 : goal.returns-then-d-eq0
returns-then-d-eq0 c = clearance-whole c.bits-flags.result c.bits-flags.ensures c.if-d-eq0.true c.args.place c.emit-m.ensures c.mark-e.ensures c.read_fields.ensures

pub returns-then-c-ne0 : goal.returns-then-c-ne0
returns-then-c-ne0 c = runs_within 81417 _ (omega arith) (runs_stayed _ c.if-c-ne0.true)

pub read_clipped-requires : goal.read_clipped-requires
read_clipped-requires c = (omega (arith, c.requires), c.if-c-ne0.false, clearance-short c.bits-flags.result c.bits-flags.ensures c.if-d-eq0.false c.if-c-ne0.false)

pub shape_of-words : goal.shape_of-words
shape_of-words c = told-length c.read_clipped.ensures.told

pub returns : goal.returns
returns c = runs_within 81417 _ (omega arith) c.read_clipped.ensures
