-- The argument of an element, known from the tags behind its index: document 01's byte for the argument's type, 0 where there are no records of one.
use Rattle.std.specs.Prelude.{cond, Option, None, Some, List, ℕ, eqb}
use Rattle.atn.specs.Reading.{Rec}
use Rattle.atn.specs.Tags as tags
use Rattle.screen_records.specs.Fields.{tag}
use Rattle.element_kinds.specs.declared.Kind.{Kind}
use Rattle.element_kinds.specs.declared.Kind.TheVariants.{Position, Speed, SpeedType, ThreeSpeedTypes, Level, Degrees, Frequency, Code, TrafficType, ClearanceType, ErrorInformation, FacilityFunction, Procedure, Runway, Coordinates, DepartureClearance}

-- document 01's byte for a kind
abbrev pub byte : Kind → ℕ
byte Position = 1
byte Speed = 2
byte SpeedType = 3
byte ThreeSpeedTypes = 4
byte Level = 5
byte Degrees = 6
byte Frequency = 7
byte Code = 8
byte TrafficType = 9
byte ClearanceType = 10
byte ErrorInformation = 11
byte FacilityFunction = 12
byte Procedure = 13
byte Runway = 14
byte Coordinates = 15
byte DepartureClearance = 16

abbrev pub byte_of : Option Kind → ℕ
byte_of None = 0
byte_of (Some k) = byte k

-- by the first two tags: three speed types follow one another, or there is one
unfoldable pub kind_by : ℕ → ℕ → ℕ
kind_by t u =
    cond (eqb t tags.position)
    1
    (cond (eqb t tags.speed)
    2
    (cond (eqb t tags.speed_type)
    (cond (eqb u tags.speed_type) 4 3)
    (cond (eqb t tags.level)
    5
    (cond (eqb t tags.degrees)
    6
    (cond (eqb t tags.frequency)
    7
    (cond (eqb t tags.code_digit)
    8
    (cond (eqb t tags.traffic_type)
    9
    (cond (eqb t tags.clearance_type)
    10
    (cond (eqb t tags.error_information)
    11
    (cond (eqb t tags.facility_function)
    12
    (cond (eqb t tags.procedure)
    13
    (cond (eqb t tags.runway)
    14
    (cond (eqb t tags.coordinates)
    15
    (cond (eqb t tags.flight_identification)
    16
    0))))))))))))))

-- the records R stand behind an element's index
unfoldable pub kind_of : List Rec → ℕ
kind_of R = kind_by (tag R 0) (tag R 1)
