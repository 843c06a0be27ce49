use native.Mathlib.Omega.{arith}
use Rattle.records.proofs.Telling.{told-then, told-length}
use Rattle.clearances.proofs.ClearanceLaws.{route_alone, route_stopped, route_additional}
use Rattle.clearances.proofs.read_route.Goals as goal

pub shape_of-words-then-v-eq0 : goal.shape_of-words-then-v-eq0
shape_of-words-then-v-eq0 c = told-length (c.legs_part-legs.ensures.run 0).told

pub returns-then-v-eq0 : goal.returns-then-v-eq0
returns-then-v-eq0 c = route_alone c.legs_part-legs.ensures c.if-v-eq0.true

pub shape_of-words-then-d-ne0 : goal.shape_of-words-then-d-ne0
shape_of-words-then-d-ne0 c = told-length (c.legs_part-legs.ensures.run 0).told

pub returns-then-d-ne0 : goal.returns-then-d-ne0
returns-then-d-ne0 c = route_stopped c.legs_part-legs.ensures c.if-d-ne0.true

pub emit-m-requires : goal.emit-m-requires
emit-m-requires c = omega (arith, c.requires, (c.legs_part-legs.ensures.run 0).told.few)

pub shape_of-words : goal.shape_of-words
shape_of-words c = told-length (told-then (c.legs_part-legs.ensures.run 0).told c.emit-m.ensures)

pub returns : goal.returns
returns c = route_additional c.legs_part-legs.ensures c.if-v-eq0.false c.if-d-ne0.false c.mark-e.ensures c.emit-m.ensures
