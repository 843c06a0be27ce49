-- The text of an argument, from its records: each as the source's reader of that name puts it together.
use Rattle.std.specs.Prelude.{cond, List, [], ◌∷◌, ◌++◌, ℕ, ◌+◌, ◌*◌, drop, get_or, ltb, eqb}
use Rattle.atn.specs.Reading.{Rec}
use Rattle.screen_bytes.specs.Text.{bytes, degree_sign}
use Rattle.screen_numbers.specs.Numbers.{digit, decimal, two_digits, thousandths, magnitude, signed}
use Rattle.phrases.specs.Phrases.{line_of}
use Rattle.screen_records.specs.Fields.{tag, value, second, text_records, text}
use Rattle.screen_values.specs.Words.{procedure_types, runway_sides, speed_units, norths}

-- an enumeration by its words; the extension bit is the second number
unfoldable pub enumeration : List ℕ → List Rec → List ℕ
enumeration words R = cond (eqb (second R 0) 1) (bytes "(extended)") (line_of words (value R 0))

-- `read_level_type`: tens of feet, metres, a flight level, tens of metres
unfoldable pub level : List Rec → List ℕ
level R =
    get_or
    ((signed 10 (value R 1) ++ bytes " FT") ∷ (signed 1 (value R 1) ++ bytes " M") ∷ (bytes "FL" ++ signed 1 (value R 1)) ∷ [])
    (value R 0) (signed 10 (value R 1) ++ bytes " M")

-- `read_speed`: six units, and Mach
unfoldable pub speed : List Rec → List ℕ
speed R = cond (ltb (value R 0) 6) (signed 1 (value R 1) ++ line_of speed_units (value R 0)) (bytes "M" ++ thousandths (value R 1))

unfoldable pub degrees : List Rec → List ℕ
degrees R = decimal (value R 1) ++ degree_sign ++ line_of norths (value R 0)

-- `read_frequency`: kHz, steps of 5 kHz, steps of 25 kHz, a satellite channel
unfoldable pub frequency : List Rec → List ℕ
frequency R =
    get_or
    ((decimal (value R 1) ++ bytes " kHz") ∷ (thousandths (magnitude (value R 1) * 5) ++ bytes " MHz") ∷ (thousandths (magnitude (value R 1) * 25) ++ bytes " MHz") ∷ [])
    (value R 0) (bytes "SAT " ++ text (drop 1 R))

unfoldable pub code : List Rec → List ℕ
code R = digit (value R 0) ∷ digit (value R 1) ∷ digit (value R 2) ∷ digit (value R 3) ∷ []

-- `read_procedure`: its kind, its name and, behind the records of the name, a transition (tag 67)
unfoldable pub transition : List Rec → List ℕ
transition R = cond (eqb (tag R 0) 67) (bytes " TRANSITION " ++ text R) []

unfoldable pub procedure : List Rec → List ℕ
procedure R = text (drop 1 R) ++ bytes " (" ++ line_of procedure_types (value R 0) ++ bytes ")" ++ transition (drop (1 + text_records (drop 1 R)) R)

unfoldable pub runway : List Rec → List ℕ
runway R = bytes "RWY " ++ two_digits (value R 0) ++ line_of runway_sides (value R 1)
