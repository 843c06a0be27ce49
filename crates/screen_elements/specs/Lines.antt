-- The line of an element: "the Rust's `text`, or the phrase where it has none".
use Rattle.std.specs.Prelude.{cond, List, [], ◌∷◌, ℕ, zero, suc, drop, get_or, ltb, eqb}
use Rattle.atn.specs.Reading.{Rec}
use Rattle.phrases.specs.Phrases.{fill}
use Rattle.screen_values.specs.Words.{speed_types, traffic_types, clearance_types, error_information, facility_functions}
use Rattle.screen_values.specs.Values.{enumeration, level, speed, degrees, frequency, code, procedure, runway}
use Rattle.screen_coordinates.specs.Coordinates.{coordinates}
use Rattle.screen_positions.specs.Positions.{position, departure}

-- the text of a value by the byte that document 01 has for the argument's type: 0 is none
unfoldable pub argument : ℕ → List Rec → List ℕ
argument kind R =
    get_or
    ([]
    ∷ position R
    ∷ speed R
    ∷ enumeration speed_types R
    ∷ enumeration speed_types R
    ∷ level R
    ∷ degrees R
    ∷ frequency R
    ∷ code R
    ∷ enumeration traffic_types R
    ∷ enumeration clearance_types R
    ∷ enumeration error_information R
    ∷ enumeration facility_functions R
    ∷ procedure R
    ∷ runway R
    ∷ coordinates R
    ∷ departure R
    ∷ [])
    kind []

-- how many values fill brackets: byte 4 has three, of one record each
unfoldable pub value_count : ℕ → ℕ
value_count kind = cond (eqb kind 0) 0 (cond (eqb kind 4) 3 (cond (ltb kind 17) 1 0))

unfoldable pub values : ℕ → ℕ → List Rec → List (List ℕ)
values zero kind R = []
values (suc n) kind R = argument kind R ∷ values n kind (drop 1 R)

-- the phrase, the byte of the argument's type, and the argument's records; the line feed is left out
unfoldable pub element_line : List ℕ → ℕ → List Rec → List ℕ
element_line phrase kind R = fill (values (value_count kind) kind R) phrase
