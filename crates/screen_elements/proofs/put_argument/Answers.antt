use native.Mathlib.Omega.{arith}
use Rattle.screen_bytes.specs.Text.{bytes}
use Rattle.screen_bytes.proofs.Putting.{put-within}
use Rattle.screen_values.specs.Words.{speed_types, traffic_types, clearance_types, error_information, facility_functions}
use Rattle.screen_elements.specs.Lines.{argument}
use Rattle.screen_elements.proofs.put_argument.Goals as goal

pub returns-in-Position : goal.returns-in-Position
unfolding argument
returns-in-Position c = rw c.in-Position.is (put-within 276 (omega arith) c.put_position.ensures)

pub returns-in-Speed : goal.returns-in-Speed
unfolding argument
returns-in-Speed c = rw c.in-Speed.is (put-within 276 (omega arith) c.put_speed.ensures)

pub returns-in-SpeedType : goal.returns-in-SpeedType
unfolding argument speed_types bytes
returns-in-SpeedType c = rw c.in-SpeedType.is (put-within 276 (omega arith) c.put_enumeration.ensures)

pub returns-in-ThreeSpeedTypes : goal.returns-in-ThreeSpeedTypes
unfolding argument speed_types bytes
returns-in-ThreeSpeedTypes c = rw c.in-ThreeSpeedTypes.is (put-within 276 (omega arith) c.put_enumeration-in-ThreeSpeedTypes.ensures)

pub returns-in-Level : goal.returns-in-Level
unfolding argument
returns-in-Level c = rw c.in-Level.is (put-within 276 (omega arith) c.put_level.ensures)

pub returns-in-Degrees : goal.returns-in-Degrees
unfolding argument
returns-in-Degrees c = rw c.in-Degrees.is (put-within 276 (omega arith) c.put_degrees.ensures)

pub returns-in-Frequency : goal.returns-in-Frequency
unfolding argument
returns-in-Frequency c = rw c.in-Frequency.is (put-within 276 (omega arith) c.put_frequency.ensures)

pub returns-in-Code : goal.returns-in-Code
unfolding argument
returns-in-Code c = rw c.in-Code.is (put-within 276 (omega arith) c.put_code.ensures)

pub returns-in-TrafficType : goal.returns-in-TrafficType
unfolding argument traffic_types bytes
returns-in-TrafficType c = rw c.in-TrafficType.is (put-within 276 (omega arith) c.put_enumeration-in-TrafficType.ensures)

pub returns-in-ClearanceType : goal.returns-in-ClearanceType
unfolding argument clearance_types bytes
returns-in-ClearanceType c = rw c.in-ClearanceType.is (put-within 276 (omega arith) c.put_enumeration-in-ClearanceType.ensures)

pub returns-in-ErrorInformation : goal.returns-in-ErrorInformation
unfolding argument error_information bytes
returns-in-ErrorInformation c = rw c.in-ErrorInformation.is (put-within 276 (omega arith) c.put_enumeration-in-ErrorInformation.ensures)

pub returns-in-FacilityFunction : goal.returns-in-FacilityFunction
unfolding argument facility_functions bytes
returns-in-FacilityFunction c = rw c.in-FacilityFunction.is (put-within 276 (omega arith) c.put_enumeration-in-FacilityFunction.ensures)

pub returns-in-Procedure : goal.returns-in-Procedure
unfolding argument
returns-in-Procedure c = rw c.in-Procedure.is (put-within 276 (omega arith) c.put_procedure.ensures)

pub returns-in-Runway : goal.returns-in-Runway
unfolding argument
returns-in-Runway c = rw c.in-Runway.is (put-within 276 (omega arith) c.put_runway.ensures)

pub returns-in-Coordinates : goal.returns-in-Coordinates
unfolding argument
returns-in-Coordinates c = rw c.in-Coordinates.is (put-within 276 (omega arith) c.put_coordinates.ensures)

pub returns-in-DepartureClearance : goal.returns-in-DepartureClearance
unfolding argument
returns-in-DepartureClearance c = rw c.in-DepartureClearance.is (put-within 276 (omega arith) c.put_departure.ensures)
