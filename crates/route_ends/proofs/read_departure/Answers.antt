use native.Mathlib.Omega.{arith}
use Rattle.atn.specs.Reading.{flags}
use Rattle.records.proofs.Telling.{told-length}
use Rattle.optional_parts.specs.Parts.{chosen}
use Rattle.optional_parts.proofs.PartLaws.{part_none, part_then}
use Rattle.route_ends.proofs.read_departure.Goals as goal

pub airport_part-destination-requires : goal.airport_part-destination-requires
airport_part-destination-requires c = omega (arith, c.requires, (c.airport_part-departure.ensures.run 0).told.few)

pub runway_part-runway-requires : goal.runway_part-runway-requires
runway_part-runway-requires c = (omega (arith, c.requires, (c.airport_part-departure.ensures.run 0).told.few, (c.airport_part-destination.ensures.run 0).told.few), omega arith)

pub procedure_part-requires : goal.procedure_part-requires
procedure_part-requires c = (omega (arith, c.requires, (c.airport_part-departure.ensures.run 0).told.few, (c.airport_part-destination.ensures.run 0).told.few, (c.runway_part-runway.ensures.run 0).told.few), omega arith)

pub returns : goal.returns
unfolding chosen flags
returns c = record { run = λ i. part_then (c.airport_part-departure.ensures.run i) (part_then (c.airport_part-destination.ensures.run i) (part_then (c.runway_part-runway.ensures.run i) (part_then (c.procedure_part.ensures.run i) part_none))) }

pub shape_of-words : goal.shape_of-words
shape_of-words c = told-length (part_then (c.airport_part-departure.ensures.run 0) (part_then (c.airport_part-destination.ensures.run 0) (part_then (c.runway_part-runway.ensures.run 0) (c.procedure_part.ensures.run 0)))).told
