use Rattle.field_ranges.specs.Ends.{highest}
use Rattle.argument_values.specs.Arguments.{argument_body, argument_recs, HeldArgument}
use Rattle.cursor.proofs.Laws.{got_is}
use Rattle.name_arguments.proofs.facility_function.Goals as goal

pub returns : goal.returns
unfolding argument_body argument_recs HeldArgument highest
returns c = rw (got_is c.map.ensures.value c.map.ensures.place) (record { reads = c.read_facility_function.ensures.reads 64; held = tt; kind = tt })
