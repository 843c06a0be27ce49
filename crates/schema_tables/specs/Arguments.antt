-- Tables for document 01's argument readers, by the byte of an element table less 1. The satellite channel of a frequency is an alternative without a reader.
use Rattle.std.specs.Prelude.{List, [], ◌∷◌, ◌++◌, ℕ, ◌+◌, ◌-◌, ◌*◌}
use Rattle.atn.specs.Schema.{minus}
use Rattle.atn.specs.Tags as tag

-- a node
abbrev pub number : ℕ → ℕ → ℕ → List ℕ
number t lo hi = 0 ∷ t ∷ lo ∷ hi ∷ []

abbrev pub place : ℕ → ℕ → List ℕ
place t hi = 1 ∷ t ∷ hi ∷ 0 ∷ []

abbrev pub letters : ℕ → ℕ → ℕ → List ℕ
letters t lo hi = 2 ∷ t ∷ lo ∷ hi ∷ []

abbrev pub sequence : ℕ → ℕ → List ℕ
sequence first n = 4 ∷ first ∷ n ∷ 0 ∷ []

abbrev pub choices : ℕ → ℕ → ℕ → List ℕ
choices t first n = 5 ∷ t ∷ first ∷ n ∷ []

abbrev pub optional : ℕ → List ℕ
optional k = 6 ∷ k ∷ 0 ∷ 0 ∷ []

abbrev pub unread_part : ℕ → List ℕ
unread_part t = 7 ∷ t ∷ 0 ∷ 0 ∷ []

abbrev pub no_alternative : List ℕ
no_alternative = 8 ∷ 0 ∷ 0 ∷ 0 ∷ []

abbrev pub not_listed : List ℕ
not_listed = 9 ∷ 0 ∷ 0 ∷ 0 ∷ []

abbrev pub extensible : ℕ → ℕ → List ℕ
extensible k t = 10 ∷ k ∷ t ∷ 0 ∷ []

abbrev pub headed : ℕ → ℕ → List ℕ
headed t k = 11 ∷ t ∷ k ∷ 0 ∷ []

abbrev pub same : ℕ → List ℕ
same k = 12 ∷ k ∷ 0 ∷ 0 ∷ []

-- a latitude or a longitude in eleven nodes, from node k on: tags of the form, thousandths, degrees, hundredths, minutes, seconds, side; the highest of the degrees
abbrev pub angle : ℕ → ℕ → ℕ → ℕ → ℕ → ℕ → ℕ → ℕ → ℕ → List ℕ
angle k t u d h m s i hi =
    sequence (k + 1) 2
    ++ choices t (k + 3) 3
    ++ number i 0 1
    ++ number u 0 (hi * 1000)
    ++ sequence (k + 6) 2
    ++ sequence (k + 8) 3
    ++ number d 0 (hi - 1)
    ++ number h 0 5999
    ++ number d 0 (hi - 1)
    ++ number m 0 59
    ++ number s 0 59

-- a latitude and a longitude, each of which may be absent, from node k on: 26 nodes
abbrev pub coordinates : ℕ → List ℕ
coordinates k =
    headed tag.coordinates (k + 1)
    ++ sequence (k + 2) 2
    ++ optional (k + 4)
    ++ optional (k + 15)
    ++ angle (k + 4) tag.latitude tag.latitude_thousandths tag.latitude_degrees tag.latitude_hundredths tag.latitude_minutes tag.latitude_seconds tag.latitude_side 90
    ++ angle (k + 15) tag.longitude tag.longitude_thousandths tag.longitude_degrees tag.longitude_hundredths tag.longitude_minutes tag.longitude_seconds tag.longitude_side 180

-- a position, from node k on: 36 nodes
abbrev pub position_at : ℕ → List ℕ
position_at k =
    choices tag.position (k + 1) 5
    ++ sequence (k + 6) 2
    ++ sequence (k + 8) 2
    ++ letters tag.airport 4 4
    ++ same (k + 10)
    ++ not_listed
    ++ letters tag.fix 1 5
    ++ optional (k + 10)
    ++ letters tag.navaid 1 4
    ++ optional (k + 10)
    ++ coordinates (k + 10)

-- a name with an extension marker
abbrev pub extensible_name : ℕ → ℕ → List ℕ
extensible_name t hi = extensible 1 t ++ place t hi

abbrev pub speed_nodes : List ℕ
speed_nodes =
    choices tag.speed 1 7
    ++ number tag.speed_number 0 400
    ++ number tag.speed_number 0 800
    ++ number tag.speed_number 0 2000
    ++ number tag.speed_number 0 4000
    ++ number tag.speed_number (minus 50) 2000
    ++ number tag.speed_number (minus 100) 4000
    ++ number tag.speed_number 500 4000

abbrev pub speed_types_nodes : List ℕ
speed_types_nodes = sequence 1 3 ++ same 4 ++ same 4 ++ same 4 ++ extensible 5 tag.speed_type ++ place tag.speed_type 8

abbrev pub level_nodes : List ℕ
level_nodes = choices tag.level 1 4 ++ number tag.level_number (minus 60) 7000 ++ number tag.level_number (minus 30) 25000 ++ number tag.level_number 30 700 ++ number tag.level_number 100 2500

abbrev pub degrees_nodes : List ℕ
degrees_nodes = choices tag.degrees 1 2 ++ number tag.degrees_number 1 360 ++ number tag.degrees_number 1 360

abbrev pub frequency_nodes : List ℕ
frequency_nodes = choices tag.frequency 1 4 ++ number tag.frequency_number 2850 28000 ++ number tag.frequency_number 23600 27398 ++ number tag.frequency_number 9000 15999 ++ no_alternative

abbrev pub code_nodes : List ℕ
code_nodes = sequence 1 4 ++ number tag.code_digit 0 7 ++ number tag.code_digit 0 7 ++ number tag.code_digit 0 7 ++ number tag.code_digit 0 7

abbrev pub procedure_nodes : List ℕ
procedure_nodes = sequence 1 3 ++ place tag.procedure 2 ++ letters tag.procedure_name 1 20 ++ optional 4 ++ letters tag.procedure_transition 1 5

abbrev pub runway_nodes : List ℕ
runway_nodes = sequence 1 2 ++ number tag.runway 1 36 ++ number tag.runway_side 0 3

abbrev pub departure_nodes : List ℕ
departure_nodes = sequence 1 4 ++ letters tag.flight_identification 2 8 ++ same 5 ++ unread_part tag.flight_information ++ unread_part tag.further_instructions ++ position_at 5

abbrev pub argument_tables : List (List ℕ)
argument_tables =
    position_at 0
    ∷ speed_nodes
    ∷ extensible_name tag.speed_type 8
    ∷ speed_types_nodes
    ∷ level_nodes
    ∷ degrees_nodes
    ∷ frequency_nodes
    ∷ code_nodes
    ∷ extensible_name tag.traffic_type 5
    ∷ extensible_name tag.clearance_type 11
    ∷ extensible_name tag.error_information 4
    ∷ extensible_name tag.facility_function 8
    ∷ procedure_nodes
    ∷ runway_nodes
    ∷ coordinates 0
    ∷ departure_nodes
    ∷ []
