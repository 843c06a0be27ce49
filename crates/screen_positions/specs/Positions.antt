-- The text of positions and of the departure clearance, from their records, and how many records a position has.
use Rattle.std.specs.Prelude.{cond, List, [], ◌∷◌, ◌++◌, ℕ, ◌+◌, drop, get_or, eqb}
use Rattle.atn.specs.Reading.{Rec}
use Rattle.screen_bytes.specs.Text.{bytes}
use Rattle.screen_records.specs.Fields.{tag, value, text_records, text}
use Rattle.screen_coordinates.specs.Coordinates.{coordinates, coordinates_records}

-- a name, and coordinates (tag 34) behind it in brackets
unfoldable pub bracketed : List Rec → List ℕ
bracketed R = cond (eqb (tag R 0) 34) (bytes " (" ++ coordinates R ++ bytes ")") []

unfoldable pub named : List Rec → List ℕ
named R = text R ++ bracketed (drop (text_records R) R)

unfoldable pub named_records : List Rec → ℕ
named_records R = text_records R + cond (eqb (tag R (text_records R)) 34) (coordinates_records (drop (text_records R) R)) 0

-- `read_position`: a fix, a navaid, an airport, coordinates
unfoldable pub position : List Rec → List ℕ
position R = get_or (named (drop 1 R) ∷ named (drop 1 R) ∷ text (drop 1 R) ∷ []) (value R 0) (coordinates (drop 1 R))

unfoldable pub position_records : List Rec → ℕ
position_records R = 1 + get_or (named_records (drop 1 R) ∷ named_records (drop 1 R) ∷ text_records (drop 1 R) ∷ []) (value R 0) (coordinates_records (drop 1 R))

-- behind the position: flight information (tag 71), further instructions (tag 72), or neither
unfoldable pub note : List ℕ
note = bytes " (+flight-info/further-instructions present, undecoded)"

unfoldable pub unread : ℕ → List ℕ
unread t = cond (eqb t 71) note (cond (eqb t 72) note [])

-- `read_departure_clearance`
unfoldable pub cleared : List Rec → List ℕ
cleared R = position R ++ unread (tag R (position_records R))

unfoldable pub departure : List Rec → List ℕ
departure R = text R ++ bytes " CLEARED TO " ++ cleared (drop (text_records R) R)
