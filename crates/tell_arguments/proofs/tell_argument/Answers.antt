use native.Mathlib.Omega.{arith}
use Rattle.records.proofs.Telling.{told_none, told-within, told-length}
use Rattle.argument_values.specs.Arguments.{argument_recs, HeldArgument}
use Rattle.tell_arguments.proofs.HeldLaws.{procedure-held, departure-held}
use Rattle.tell_arguments.proofs.tell_argument.Goals as goal

pub returns-in-Nothing : goal.returns-in-Nothing
unfolding argument_recs
returns-in-Nothing c = rw c.in-Nothing.is (told-within 142 (omega arith) told_none)

pub shape_of-words-in-Position : goal.shape_of-words-in-Position
shape_of-words-in-Position c = told-length c.tell_position.ensures

pub shape_of-words-in-Speed : goal.shape_of-words-in-Speed
shape_of-words-in-Speed c = told-length c.tell_quantity.ensures

pub shape_of-words-in-SpeedType : goal.shape_of-words-in-SpeedType
shape_of-words-in-SpeedType c = told-length c.tell_name.ensures

pub shape_of-words-in-SpeedTypes : goal.shape_of-words-in-SpeedTypes
shape_of-words-in-SpeedTypes c = told-length c.tell_triple.ensures

pub shape_of-words-in-Level : goal.shape_of-words-in-Level
shape_of-words-in-Level c = told-length c.tell_quantity-in-Level.ensures

pub shape_of-words-in-Degrees : goal.shape_of-words-in-Degrees
shape_of-words-in-Degrees c = told-length c.tell_quantity-in-Degrees.ensures

pub shape_of-words-in-Frequency : goal.shape_of-words-in-Frequency
shape_of-words-in-Frequency c = told-length c.tell_frequency.ensures

pub shape_of-words-in-Code : goal.shape_of-words-in-Code
shape_of-words-in-Code c = told-length c.tell_code.ensures

pub shape_of-words-in-TrafficType : goal.shape_of-words-in-TrafficType
shape_of-words-in-TrafficType c = told-length c.tell_name-in-TrafficType.ensures

pub shape_of-words-in-ClearanceType : goal.shape_of-words-in-ClearanceType
shape_of-words-in-ClearanceType c = told-length c.tell_name-in-ClearanceType.ensures

pub shape_of-words-in-ErrorInformation : goal.shape_of-words-in-ErrorInformation
shape_of-words-in-ErrorInformation c = told-length c.tell_name-in-ErrorInformation.ensures

pub shape_of-words-in-FacilityFunction : goal.shape_of-words-in-FacilityFunction
shape_of-words-in-FacilityFunction c = told-length c.tell_name-in-FacilityFunction.ensures

pub shape_of-words-in-Procedure : goal.shape_of-words-in-Procedure
shape_of-words-in-Procedure c = told-length c.tell_procedure.ensures

pub shape_of-words-in-Runway : goal.shape_of-words-in-Runway
shape_of-words-in-Runway c = told-length c.tell_runway.ensures

pub shape_of-words-in-Coordinates : goal.shape_of-words-in-Coordinates
shape_of-words-in-Coordinates c = told-length c.tell_pair.ensures

pub shape_of-words-in-Departure : goal.shape_of-words-in-Departure
shape_of-words-in-Departure c = told-length c.tell_departure.ensures

pub tell_position-requires : goal.tell_position-requires
unfolding HeldArgument
tell_position-requires c = (omega arith, rw c.in-Position.is at c.requires.1)

pub tell_frequency-requires : goal.tell_frequency-requires
unfolding HeldArgument
tell_frequency-requires c = (omega arith, rw c.in-Frequency.is at c.requires.1)

pub tell_procedure-requires : goal.tell_procedure-requires
tell_procedure-requires c = let h = procedure-held c.in-Procedure.is c.requires.1 in (omega arith, h.0, h.1)

pub tell_departure-requires : goal.tell_departure-requires
tell_departure-requires c = let h = departure-held c.in-Departure.is c.requires.1 in (omega arith, h.0, h.1)

pub returns-in-Position : goal.returns-in-Position
unfolding argument_recs
returns-in-Position c = rw c.in-Position.is (told-within 142 (omega arith) c.tell_position.ensures)

pub returns-in-Speed : goal.returns-in-Speed
unfolding argument_recs
returns-in-Speed c = rw c.in-Speed.is (told-within 142 (omega arith) c.tell_quantity.ensures)

pub returns-in-SpeedType : goal.returns-in-SpeedType
unfolding argument_recs
returns-in-SpeedType c = rw c.in-SpeedType.is (told-within 142 (omega arith) c.tell_name.ensures)

pub returns-in-SpeedTypes : goal.returns-in-SpeedTypes
unfolding argument_recs
returns-in-SpeedTypes c = rw c.in-SpeedTypes.is (told-within 142 (omega arith) c.tell_triple.ensures)

pub returns-in-Level : goal.returns-in-Level
unfolding argument_recs
returns-in-Level c = rw c.in-Level.is (told-within 142 (omega arith) c.tell_quantity-in-Level.ensures)

pub returns-in-Degrees : goal.returns-in-Degrees
unfolding argument_recs
returns-in-Degrees c = rw c.in-Degrees.is (told-within 142 (omega arith) c.tell_quantity-in-Degrees.ensures)

pub returns-in-Frequency : goal.returns-in-Frequency
unfolding argument_recs
returns-in-Frequency c = rw c.in-Frequency.is (told-within 142 (omega arith) c.tell_frequency.ensures)

pub returns-in-Code : goal.returns-in-Code
unfolding argument_recs
returns-in-Code c = rw c.in-Code.is (told-within 142 (omega arith) c.tell_code.ensures)

pub returns-in-TrafficType : goal.returns-in-TrafficType
unfolding argument_recs
returns-in-TrafficType c = rw c.in-TrafficType.is (told-within 142 (omega arith) c.tell_name-in-TrafficType.ensures)

pub returns-in-ClearanceType : goal.returns-in-ClearanceType
unfolding argument_recs
returns-in-ClearanceType c = rw c.in-ClearanceType.is (told-within 142 (omega arith) c.tell_name-in-ClearanceType.ensures)

pub returns-in-ErrorInformation : goal.returns-in-ErrorInformation
unfolding argument_recs
returns-in-ErrorInformation c = rw c.in-ErrorInformation.is (told-within 142 (omega arith) c.tell_name-in-ErrorInformation.ensures)

pub returns-in-FacilityFunction : goal.returns-in-FacilityFunction
unfolding argument_recs
returns-in-FacilityFunction c = rw c.in-FacilityFunction.is (told-within 142 (omega arith) c.tell_name-in-FacilityFunction.ensures)

pub returns-in-Procedure : goal.returns-in-Procedure
unfolding argument_recs
returns-in-Procedure c = rw c.in-Procedure.is (told-within 142 (omega arith) c.tell_procedure.ensures)

pub returns-in-Runway : goal.returns-in-Runway
unfolding argument_recs
returns-in-Runway c = rw c.in-Runway.is (told-within 142 (omega arith) c.tell_runway.ensures)

pub returns-in-Coordinates : goal.returns-in-Coordinates
unfolding argument_recs
returns-in-Coordinates c = rw c.in-Coordinates.is (told-within 142 (omega arith) c.tell_pair.ensures)

pub returns-in-Departure : goal.returns-in-Departure
unfolding argument_recs
returns-in-Departure c = rw c.in-Departure.is (told-within 142 (omega arith) c.tell_departure.ensures)
