-- The arguments by the byte of the lent table: their records, what telling them needs, and what their readers read.
use Rattle.std.specs.Prelude.{List, [], ℕ, zero, suc, get_or}
use Rattle.atn.specs.Format.{Fmt, null}
use Rattle.atn.specs.Reading.{Rec}
use Rattle.atn.specs.Messages as message
use Rattle.atn.specs.Tags as tag
use Rattle.cursor.specs.declared.place.Cursor.{Cursor}
use Rattle.cursor.specs.declared.place.Got.{Got}
use Rattle.cursor.specs.Place.{Takes}
use Rattle.quantities.specs.Records.{quantity_recs}
use Rattle.enumerations.specs.Records.{name_recs, triple_recs}
use Rattle.codes_runways.specs.Records.{code_recs, runway_recs}
use Rattle.frequencies.specs.Records.{frequency_recs, HeldFrequency}
use Rattle.frequencies.specs.Readers.{KindRead}
use Rattle.angles.specs.Angles.{pair_recs}
use Rattle.named_places.specs.Names.{Held, HeldIfThere, procedure_recs}
use Rattle.positions.specs.Positions.{HeldPosition, position_recs, departure_recs}
use Rattle.argument_values.specs.declared.Argument.{Argument}
use Rattle.argument_values.specs.declared.Argument.TheVariants.{Nothing, Position, Speed, SpeedType, SpeedTypes, Level, Degrees, Frequency, Code}
use Rattle.argument_values.specs.declared.Argument.TheVariants.{TrafficType, ClearanceType, ErrorInformation, FacilityFunction, Procedure, Runway, Coordinates, Departure}

-- what the element of the byte k has as its argument: atn's argument_of, without what its failure does to the walk
unfoldable pub argument_body : ℕ → Fmt
argument_body zero = null
argument_body (suc k) = get_or message.arguments k message.no_reader

unfoldable pub argument_recs : List ℕ → Argument → ℕ → List Rec
argument_recs s Nothing n = []
argument_recs s (Position v) n = position_recs s v n
argument_recs s (Speed v) n = quantity_recs tag.speed tag.speed_number v n
argument_recs s (SpeedType v) n = name_recs tag.speed_type v n
argument_recs s (SpeedTypes v) n = triple_recs v n
argument_recs s (Level v) n = quantity_recs tag.level tag.level_number v n
argument_recs s (Degrees v) n = quantity_recs tag.degrees tag.degrees_number v n
argument_recs s (Frequency v) n = frequency_recs s v n
argument_recs s (Code v) n = code_recs v n
argument_recs s (TrafficType v) n = name_recs tag.traffic_type v n
argument_recs s (ClearanceType v) n = name_recs tag.clearance_type v n
argument_recs s (ErrorInformation v) n = name_recs tag.error_information v n
argument_recs s (FacilityFunction v) n = name_recs tag.facility_function v n
argument_recs s (Procedure v) n = procedure_recs tag.procedure tag.procedure_name tag.procedure_transition s v n
argument_recs s (Runway v) n = runway_recs tag.runway tag.runway_side v n
argument_recs s (Coordinates v) n = pair_recs v n
argument_recs s (Departure v) n = departure_recs s v n

-- the argument can be told: so can the texts in it
unfoldable pub HeldArgument : List ℕ → Argument → Type 0
HeldArgument s Nothing = Unit {0}
HeldArgument s (Position v) = HeldPosition s v
HeldArgument s (Speed v) = Unit {0}
HeldArgument s (SpeedType v) = Unit {0}
HeldArgument s (SpeedTypes v) = Unit {0}
HeldArgument s (Level v) = Unit {0}
HeldArgument s (Degrees v) = Unit {0}
HeldArgument s (Frequency v) = HeldFrequency s v
HeldArgument s (Code v) = Unit {0}
HeldArgument s (TrafficType v) = Unit {0}
HeldArgument s (ClearanceType v) = Unit {0}
HeldArgument s (ErrorInformation v) = Unit {0}
HeldArgument s (FacilityFunction v) = Unit {0}
HeldArgument s (Procedure v) = Held s v.name × HeldIfThere s v.transition
HeldArgument s (Runway v) = Unit {0}
HeldArgument s (Coordinates v) = Unit {0}
HeldArgument s (Departure v) = Held s v.flight × HeldPosition s v.position

-- a channel that was read is kind 3, also as an argument
abbrev pub FrequencyRead : Argument → Type 0
FrequencyRead (Frequency v) = KindRead v
FrequencyRead x = Unit {0}

pub record Arguments (k : ℕ) (s : List ℕ) (c : Cursor) (r : Got Argument) : Type 0 where
  pub reads : Takes (argument_body k) s c r.c (argument_recs s r.v)
  -- whatever was read
  pub held : HeldArgument s r.v
  pub kind : FrequencyRead r.v
