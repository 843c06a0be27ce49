-- The parts of a route clearance at the two ends of its route.
use Rattle.atn.specs.Format.{Flds, end, ◌⨾?◌}
use Rattle.atn.specs.Messages as message
use Rattle.atn.specs.Tags as tag

abbrev pub departure_fields : Flds
departure_fields =
    message.ia5 tag.departure_airport 4 4
    ⨾? message.ia5 tag.destination_airport 4 4
    ⨾? message.runway tag.departure_runway tag.departure_runway_side
    ⨾? message.procedure tag.departure_procedure tag.departure_procedure_name tag.departure_procedure_transition
    ⨾? end

abbrev pub arrival_fields : Flds
arrival_fields =
    message.runway tag.arrival_runway tag.arrival_runway_side
    ⨾? message.procedure tag.approach_procedure tag.approach_procedure_name tag.approach_procedure_transition
    ⨾? message.procedure tag.arrival_procedure tag.arrival_procedure_name tag.arrival_procedure_transition
    ⨾? end
