-- Lines worked out: what the definitions show for some records. Tags, forms and numbers are those of docs/TAGS.md; the last number of a record is where its field began, which no line shows.
use mathlib.Core.Path.{◌≡◌, refl}
use mathlib.Core.List.{List, [], ◌∷◌, ◌++◌}
use Prim.Native.Nat.{ℕ}
use Rattle.atn.specs.Reading.{Rec, rec}
use Rattle.screen_bytes.specs.Text.{bytes, degree_sign}
use Rattle.screen_numbers.specs.Numbers.{digit, digits, decimal, two_digits, thousandths, magnitude, signed}
use Rattle.phrases.specs.Phrases.{place, phrase_of, or_nothing, line_of, close, fill}
use Rattle.screen_records.specs.Fields.{tag, value, second, text_length, text_records, character, characters, text}
use Rattle.screen_values.specs.Words.{speed_types, runway_sides}
use Rattle.screen_values.specs.Values.{enumeration, level, speed, runway}
use Rattle.screen_coordinates.specs.Coordinates.{latitude_sides, angle, angle_records, longitude_at, latitude, longitude, between, coordinates, coordinates_records}
use Rattle.screen_positions.specs.Positions.{bracketed, named, named_records, position, position_records, note, unread, cleared, departure}
use Rattle.screen_elements.specs.Lines.{argument, value_count, values, element_line}

-- without an argument the phrase is as it is
pub as_it_is : (phrase : List ℕ) (R : List Rec) → element_line phrase 0 R ≡ phrase
unfolding element_line value_count values fill
as_it_is phrase R = refl

-- the lines that the screen people know
pub flight_level : element_line (bytes "CLIMB TO [level]") 5 (rec 53 1 2 0 70 ∷ rec 54 1 350 0 72 ∷ []) ≡ bytes "CLIMB TO FL350"
unfolding element_line value_count values fill argument bytes place close level value signed magnitude decimal digits digit
flight_level = refl

pub mach : element_line (bytes "MAINTAIN [speed]") 2 (rec 50 1 6 0 70 ∷ rec 51 1 780 0 73 ∷ []) ≡ bytes "MAINTAIN M0.780"
unfolding element_line value_count values fill argument bytes place close speed value thousandths decimal digits digit
mach = refl

pub below-zero : element_line (bytes "[level]") 5 (rec 53 1 0 0 70 ∷ rec 54 1 18446744073709551556 0 72 ∷ []) ≡ bytes "-600 FT"
unfolding element_line value_count values fill argument bytes place close level value signed magnitude decimal digits digit
below-zero = refl

-- an unclosed bracket stays, and so does one without a value
pub unclosed : element_line (bytes "AT [level") 5 (rec 53 1 2 0 70 ∷ rec 54 1 350 0 72 ∷ []) ≡ bytes "AT [level"
unfolding element_line value_count values fill argument bytes place close
unclosed = refl

pub no_value-left : element_line (bytes "[level] AT [time]") 5 (rec 53 1 2 0 70 ∷ rec 54 1 350 0 72 ∷ []) ≡ bytes "FL350 AT [time]"
unfolding element_line value_count values fill argument bytes place close level value signed magnitude decimal digits digit
no_value-left = refl

-- three values, one of them extended
pub three : element_line (bytes "REPORT [a] [b] [c] SPEED") 4 (rec 52 1 2 0 70 ∷ rec 52 1 0 1 75 ∷ rec 52 1 8 0 76 ∷ []) ≡ bytes "REPORT TRUE (extended) MAXIMUM SPEED"
unfolding element_line value_count values fill argument bytes place close enumeration second value speed_types line_of or_nothing phrase_of
three = refl

pub left-runway : element_line (bytes "CLEARED [runway]") 14 (rec 68 1 7 0 70 ∷ rec 69 1 0 0 76 ∷ []) ≡ bytes "CLEARED RWY 07L"
unfolding element_line value_count values fill argument bytes place close runway two_digits value runway_sides line_of or_nothing phrase_of decimal digits digit
left-runway = refl

-- a fix with coordinates, of a departure clearance with an unread part
pub departure-line : element_line (bytes "[clearance]") 16 (rec 70 1 4702039485951508480 2 70 ∷ rec 30 1 0 0 90 ∷ rec 31 1 4702039485951508480 2 93 ∷ rec 34 1 0 0 110 ∷ rec 35 1 0 0 112 ∷ rec 36 1 48500 0 114 ∷ rec 41 1 0 0 131 ∷ rec 71 1 1 0 132 ∷ []) ≡ bytes "AA CLEARED TO AA (48.500" ++ degree_sign ++ bytes "N) (+flight-info/further-instructions present, undecoded)"
unfolding element_line value_count values fill argument bytes degree_sign place close departure cleared unread note position position_records named named_records bracketed coordinates coordinates_records latitude longitude longitude_at between angle angle_records latitude_sides text text_length text_records character characters tag second value line_of or_nothing phrase_of thousandths decimal digits digit
departure-line = refl
