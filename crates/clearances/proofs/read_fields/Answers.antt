use native.Mathlib.Omega.{arith}
use Rattle.records.proofs.Telling.{told-then, told-length}
use Rattle.clearances.proofs.ClearanceLaws.{fields_all}
use Rattle.clearances.proofs.read_fields.Goals as goal

pub read_arrival-arrival-requires : goal.read_arrival-arrival-requires
read_arrival-arrival-requires c = omega (arith, c.requires, (c.read_departure-departure.ensures.run 0).told.few)

pub read_route-requires : goal.read_route-requires
read_route-requires c = omega (arith, c.requires, (c.read_departure-departure.ensures.run 0).told.few, (c.read_arrival-arrival.ensures.run 0).told.few)

pub shape_of-words : goal.shape_of-words
shape_of-words c = told-length (told-then (c.read_departure-departure.ensures.run 0).told (told-then (c.read_arrival-arrival.ensures.run 0).told (c.read_route.ensures.run 0).told))

pub returns : goal.returns
returns c = fields_all c.read_departure-departure.ensures c.read_arrival-arrival.ensures c.read_route.ensures
