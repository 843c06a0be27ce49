use Rattle.argument_values.specs.Arguments.{argument_body, argument_recs, HeldArgument}
use Rattle.cursor.proofs.Laws.{got_is}
use Rattle.number_arguments.proofs.degrees.Goals as goal

pub returns : goal.returns
unfolding argument_body argument_recs HeldArgument
returns c = rw (got_is c.map.ensures.value c.map.ensures.place) (record { reads = c.read_degrees.ensures.reads; held = tt; kind = tt })
