-- The text of coordinates, from their records, and how many records they have.
use Rattle.std.specs.Prelude.{cond, ◌&&◌, List, [], ◌∷◌, ◌++◌, ℕ, ◌+◌, min, drop, get_or, eqb}
use Rattle.atn.specs.Reading.{Rec}
use Rattle.screen_bytes.specs.Text.{bytes, degree_sign}
use Rattle.screen_numbers.specs.Numbers.{decimal, hundredths, thousandths}
use Rattle.phrases.specs.Phrases.{line_of}
use Rattle.screen_records.specs.Fields.{tag, value}

unfoldable pub latitude_sides : List ℕ
latitude_sides = bytes "N\nS\n"

unfoldable pub longitude_sides : List ℕ
longitude_sides = bytes "E\nW\n"

-- `read_lat_or_lon` and the side behind it: thousandths of a degree; degrees and hundredths of a minute; degrees, minutes, seconds
unfoldable pub angle : List ℕ → List Rec → List ℕ
angle sides R =
    get_or
    ((thousandths (value R 1) ++ degree_sign ++ line_of sides (value R 2))
    ∷ (decimal (value R 1) ++ degree_sign ++ hundredths (value R 2) ++ bytes "'" ++ line_of sides (value R 3))
    ∷ [])
    (value R 0)
    (decimal (value R 1) ++ degree_sign ++ decimal (value R 2) ++ bytes "'" ++ decimal (value R 3) ++ bytes "\"" ++ line_of sides (value R 4))

unfoldable pub angle_records : List Rec → ℕ
angle_records R = 3 + min (value R 0) 2

-- `read_latlon`: behind the record of the pair a latitude (tag 35), a longitude (tag 42), both or neither
unfoldable pub longitude_at : List Rec → ℕ
longitude_at R = cond (eqb (tag R 1) 35) (1 + angle_records (drop 1 R)) 1

unfoldable pub latitude : List Rec → List ℕ
latitude R = cond (eqb (tag R 1) 35) (angle latitude_sides (drop 1 R)) []

unfoldable pub longitude : List Rec → List ℕ
longitude R = cond (eqb (tag R 0) 42) (angle longitude_sides R) []

unfoldable pub between : ℕ → ℕ → List ℕ
between t u = cond (eqb t 35 && eqb u 42) (bytes " ") []

unfoldable pub coordinates : List Rec → List ℕ
coordinates R = latitude R ++ between (tag R 1) (tag R (longitude_at R)) ++ longitude (drop (longitude_at R) R)

unfoldable pub coordinates_records : List Rec → ℕ
coordinates_records R = longitude_at R + cond (eqb (tag R (longitude_at R)) 42) (angle_records (drop (longitude_at R) R)) 0
