use Rattle.argument_values.specs.Arguments.{argument_body, argument_recs, HeldArgument}
use Rattle.cursor.proofs.Laws.{got_is}
use Rattle.place_arguments.proofs.departure.Goals as goal

pub returns : goal.returns
unfolding argument_body argument_recs HeldArgument
returns c = rw (got_is c.map.ensures.value c.map.ensures.place) (record { reads = c.read_departure_clearance.ensures.reads; held = (c.read_departure_clearance.ensures.held_flight, c.read_departure_clearance.ensures.held_position); kind = tt })
