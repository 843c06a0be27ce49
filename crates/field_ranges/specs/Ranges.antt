-- The table of ranges: lowest and highest of each field that is a number, a size or a count.
use Rattle.std.specs.Prelude.{◌≡◌, ℕ, List, [], ◌∷◌, slice_index_or}
use Rattle.x691.specs.Types.{extent}
use Rattle.x691.specs.Encoding.{width}
use Rattle.atn.specs.Schema.{minus}
use Rattle.field_ranges.specs.declared.table.Range.{Range}
use Rattle.field_ranges.specs.Rows.{side, year, month, day, hours, minutes, msg_id}
use Rattle.field_ranges.specs.Rows.{latitude_thousandths, latitude_degrees, hundredths, longitude_thousandths, longitude_degrees}
use Rattle.field_ranges.specs.Rows.{degrees_0, degrees_1, speed_0, speed_1, speed_2, speed_3, speed_4, speed_5, speed_6, level_0, level_1, level_2, level_3}
use Rattle.field_ranges.specs.Rows.{frequency_0, frequency_1, frequency_2, code_digit, speed_type, traffic_type, clearance_type, error_information, facility_function, procedure, runway, runway_side}
use Rattle.field_ranges.specs.Rows.{user_abort_reason, provider_abort_reason, forward_response, cm_abort_reason, cm_forward_response, abort_diagnostic, ae_qualifier, ap_version}
use Rattle.field_ranges.specs.Rows.{fix_size, navaid_size, airport_size, procedure_size, transition_size, flight_size, route_size, channel_size, selector_size}
use Rattle.field_ranges.specs.Rows.{elements, clearances, legs, applications, release_reason}

abbrev pub row : ℕ → ℕ → ℕ → Range
row k l h = record { row = k; lo = l; hi = h }

abbrev pub table : List Range
table =
    row side 0 1 ∷
    row year 1996 2095 ∷
    row month 1 12 ∷
    row day 1 31 ∷
    row hours 0 23 ∷
    row minutes 0 59 ∷
    row msg_id 0 63 ∷
    row latitude_thousandths 0 90000 ∷
    row latitude_degrees 0 89 ∷
    row hundredths 0 5999 ∷
    row longitude_thousandths 0 180000 ∷
    row longitude_degrees 0 179 ∷
    row degrees_0 1 360 ∷
    row degrees_1 1 360 ∷
    row speed_0 0 400 ∷
    row speed_1 0 800 ∷
    row speed_2 0 2000 ∷
    row speed_3 0 4000 ∷
    row speed_4 (minus 50) 2000 ∷
    row speed_5 (minus 100) 4000 ∷
    row speed_6 500 4000 ∷
    row level_0 (minus 60) 7000 ∷
    row level_1 (minus 30) 25000 ∷
    row level_2 30 700 ∷
    row level_3 100 2500 ∷
    row frequency_0 2850 28000 ∷
    row frequency_1 23600 27398 ∷
    row frequency_2 9000 15999 ∷
    row code_digit 0 7 ∷
    row speed_type 0 8 ∷
    row traffic_type 0 5 ∷
    row clearance_type 0 11 ∷
    row error_information 0 4 ∷
    row facility_function 0 8 ∷
    row procedure 0 2 ∷
    row runway 1 36 ∷
    row runway_side 0 3 ∷
    row user_abort_reason 0 12 ∷
    row provider_abort_reason 0 7 ∷
    row forward_response 0 2 ∷
    row cm_abort_reason 0 9 ∷
    row cm_forward_response 0 2 ∷
    row abort_diagnostic 0 5 ∷
    row ae_qualifier 0 255 ∷
    row ap_version 1 255 ∷
    row fix_size 1 5 ∷
    row navaid_size 1 4 ∷
    row airport_size 4 4 ∷
    row procedure_size 1 20 ∷
    row transition_size 1 5 ∷
    row flight_size 2 8 ∷
    row route_size 2 7 ∷
    row channel_size 12 12 ∷
    row selector_size 10 11 ∷
    row elements 1 5 ∷
    row clearances 1 2 ∷
    row legs 1 128 ∷
    row applications 1 256 ∷
    row release_reason 0 30 ∷
    []

abbrev pub row_at : ℕ → Range
row_at k = slice_index_or table k (row 0 0 0)

-- a range that the table has, at the place that it names
abbrev pub Listed : Range → Type 0
Listed r = r ≡ row_at r.row

-- "A range lo..hi takes the fewest bits that hold hi - lo, none if lo = hi"
abbrev pub width_of : Range → ℕ
width_of r = width (extent r.lo r.hi)
