-- What may come next in a list of records, a row each: tag, kind, lowest, how many; the row behind it, the row that is asked
-- where the record is not this row's; the row to which its part goes back, and the row at the end of its message, 0 where these stay.
-- By docs/TAGS.md, "Reading order", and the widths of its fields; written by tools/rows. Rows 1 and 2 stand for the two rows kept so.
use Rattle.std.specs.Prelude.{List, [], ◌∷◌, ℕ}
use Rattle.atn.specs.Tags as tag
use Rattle.record_grammar.specs.Kinds.{number, reason, release, text, span, index, clearance, place, channel, digits, spaced, note}

unfoldable pub table : List ℕ
table =
    -- 0 refused
    0 ∷ 0 ∷ 0 ∷ 0 ∷ 0 ∷ 0 ∷ 0 ∷ 0 ∷
    -- 1 BACK
    0 ∷ 0 ∷ 0 ∷ 0 ∷ 0 ∷ 0 ∷ 0 ∷ 0 ∷
    -- 2 LAST
    0 ∷ 0 ∷ 0 ∷ 0 ∷ 0 ∷ 0 ∷ 0 ∷ 0 ∷
    -- 3 done
    0 ∷ 0 ∷ 0 ∷ 0 ∷ 0 ∷ 0 ∷ 0 ∷ 0 ∷
    -- 4 downlink
    tag.direction ∷ number ∷ 0 ∷ 1 ∷ 6 ∷ 5 ∷ 0 ∷ 0 ∷
    -- 5 uplink
    tag.direction ∷ number ∷ 1 ∷ 1 ∷ 10 ∷ 165 ∷ 0 ∷ 0 ∷
    -- 6 abort-user, down
    tag.pdu ∷ number ∷ 0 ∷ 1 ∷ 18 ∷ 7 ∷ 0 ∷ 0 ∷
    -- 7 abort-provider, down
    tag.pdu ∷ number ∷ 1 ∷ 1 ∷ 19 ∷ 8 ∷ 0 ∷ 0 ∷
    -- 8 startdown
    tag.pdu ∷ number ∷ 2 ∷ 1 ∷ 21 ∷ 9 ∷ 0 ∷ 0 ∷
    -- 9 send, down
    tag.pdu ∷ number ∷ 3 ∷ 1 ∷ 22 ∷ 15 ∷ 0 ∷ 0 ∷
    -- 10 abort-user, up
    tag.pdu ∷ number ∷ 0 ∷ 1 ∷ 18 ∷ 11 ∷ 0 ∷ 0 ∷
    -- 11 abort-provider, up
    tag.pdu ∷ number ∷ 1 ∷ 1 ∷ 19 ∷ 12 ∷ 0 ∷ 0 ∷
    -- 12 startup or send, up
    tag.pdu ∷ number ∷ 2 ∷ 2 ∷ 22 ∷ 13 ∷ 0 ∷ 0 ∷
    -- 13 forward
    tag.pdu ∷ number ∷ 4 ∷ 1 ∷ 32 ∷ 14 ∷ 33 ∷ 0 ∷
    -- 14 forward-response, up
    tag.pdu ∷ number ∷ 5 ∷ 1 ∷ 20 ∷ 15 ∷ 0 ∷ 0 ∷
    -- 15 extension-alternative
    tag.pdu ∷ note ∷ 0 ∷ 1 ∷ 16 ∷ 0 ∷ 0 ∷ 0 ∷
    -- 16 extension-index
    tag.extension_index ∷ number ∷ 0 ∷ 9223372036854775808 ∷ 40 ∷ 17 ∷ 0 ∷ 0 ∷
    -- 17 extension-index, upper half
    tag.extension_index ∷ number ∷ 9223372036854775808 ∷ 9223372036854775808 ∷ 40 ∷ 0 ∷ 0 ∷ 0 ∷
    -- 18 user-abort-reason
    tag.user_abort_reason ∷ reason ∷ 0 ∷ 16 ∷ 40 ∷ 0 ∷ 0 ∷ 0 ∷
    -- 19 provider-abort-reason
    tag.provider_abort_reason ∷ reason ∷ 0 ∷ 8 ∷ 40 ∷ 0 ∷ 0 ∷ 0 ∷
    -- 20 forward-response
    tag.forward_response ∷ reason ∷ 0 ∷ 4 ∷ 40 ∷ 0 ∷ 0 ∷ 0 ∷
    -- 21 mode
    tag.mode ∷ number ∷ 0 ∷ 2 ∷ 22 ∷ 22 ∷ 0 ∷ 0 ∷
    -- 22 empty
    tag.empty ∷ number ∷ 1 ∷ 1 ∷ 39 ∷ 23 ∷ 0 ∷ 0 ∷
    -- 23 msg-id
    tag.msg_id ∷ number ∷ 0 ∷ 64 ∷ 24 ∷ 0 ∷ 31 ∷ 39 ∷
    -- 24 msg-ref
    tag.msg_ref ∷ number ∷ 0 ∷ 64 ∷ 25 ∷ 25 ∷ 0 ∷ 0 ∷
    -- 25 year
    tag.year ∷ number ∷ 1996 ∷ 128 ∷ 26 ∷ 0 ∷ 0 ∷ 0 ∷
    -- 26 month
    tag.month ∷ number ∷ 1 ∷ 16 ∷ 27 ∷ 0 ∷ 0 ∷ 0 ∷
    -- 27 day
    tag.day ∷ number ∷ 1 ∷ 32 ∷ 28 ∷ 0 ∷ 0 ∷ 0 ∷
    -- 28 hours
    tag.hours ∷ number ∷ 0 ∷ 32 ∷ 29 ∷ 0 ∷ 0 ∷ 0 ∷
    -- 29 minutes
    tag.minutes ∷ number ∷ 0 ∷ 64 ∷ 30 ∷ 0 ∷ 0 ∷ 0 ∷
    -- 30 seconds
    tag.seconds ∷ number ∷ 0 ∷ 64 ∷ 1 ∷ 0 ∷ 0 ∷ 0 ∷
    -- 31 logical-ack
    tag.logical_ack ∷ number ∷ 0 ∷ 2 ∷ 36 ∷ 0 ∷ 0 ∷ 0 ∷
    -- 32 year of a forward
    tag.year ∷ number ∷ 1996 ∷ 128 ∷ 26 ∷ 40 ∷ 0 ∷ 0 ∷
    -- 33 aircraft-id
    tag.aircraft_id ∷ text ∷ 2 ∷ 8 ∷ 34 ∷ 0 ∷ 0 ∷ 0 ∷
    -- 34 aircraft-address
    tag.aircraft_address ∷ span ∷ 24 ∷ 1 ∷ 35 ∷ 0 ∷ 0 ∷ 0 ∷
    -- 35 carried-direction
    tag.carried_direction ∷ number ∷ 0 ∷ 2 ∷ 37 ∷ 0 ∷ 0 ∷ 40 ∷
    -- 36 first element
    tag.element_index ∷ index ∷ 0 ∷ 256 ∷ 41 ∷ 0 ∷ 38 ∷ 0 ∷
    -- 37 first element carried
    tag.element_index ∷ index ∷ 0 ∷ 256 ∷ 41 ∷ 40 ∷ 38 ∷ 0 ∷
    -- 38 next element
    tag.element_index ∷ index ∷ 0 ∷ 256 ∷ 41 ∷ 134 ∷ 38 ∷ 0 ∷
    -- 39 integrity-check
    tag.integrity_check ∷ span ∷ 1 ∷ 524288 ∷ 40 ∷ 40 ∷ 0 ∷ 0 ∷
    -- 40 end
    0 ∷ note ∷ 0 ∷ 0 ∷ 3 ∷ 0 ∷ 0 ∷ 0 ∷
    -- 41 position of a fix
    tag.position ∷ number ∷ 0 ∷ 1 ∷ 77 ∷ 42 ∷ 0 ∷ 0 ∷
    -- 42 position of a navaid
    tag.position ∷ number ∷ 1 ∷ 1 ∷ 78 ∷ 43 ∷ 0 ∷ 0 ∷
    -- 43 position of an airport
    tag.position ∷ number ∷ 2 ∷ 1 ∷ 79 ∷ 44 ∷ 0 ∷ 0 ∷
    -- 44 position by coordinates
    tag.position ∷ number ∷ 3 ∷ 1 ∷ 81 ∷ 45 ∷ 0 ∷ 0 ∷
    -- 45 indicated speed
    tag.speed ∷ number ∷ 0 ∷ 1 ∷ 102 ∷ 46 ∷ 0 ∷ 0 ∷
    -- 46 indicated speed in km/h
    tag.speed ∷ number ∷ 1 ∷ 1 ∷ 103 ∷ 47 ∷ 0 ∷ 0 ∷
    -- 47 true speed
    tag.speed ∷ number ∷ 2 ∷ 1 ∷ 104 ∷ 48 ∷ 0 ∷ 0 ∷
    -- 48 true speed in km/h
    tag.speed ∷ number ∷ 3 ∷ 1 ∷ 105 ∷ 49 ∷ 0 ∷ 0 ∷
    -- 49 ground speed
    tag.speed ∷ number ∷ 4 ∷ 1 ∷ 106 ∷ 50 ∷ 0 ∷ 0 ∷
    -- 50 ground speed in km/h
    tag.speed ∷ number ∷ 5 ∷ 1 ∷ 108 ∷ 51 ∷ 0 ∷ 0 ∷
    -- 51 Mach
    tag.speed ∷ number ∷ 6 ∷ 1 ∷ 110 ∷ 52 ∷ 0 ∷ 0 ∷
    -- 52 speed-type
    tag.speed_type ∷ reason ∷ 0 ∷ 9 ∷ 111 ∷ 53 ∷ 0 ∷ 0 ∷
    -- 53 level in feet
    tag.level ∷ number ∷ 0 ∷ 1 ∷ 113 ∷ 54 ∷ 0 ∷ 0 ∷
    -- 54 level in metres
    tag.level ∷ number ∷ 1 ∷ 1 ∷ 115 ∷ 55 ∷ 0 ∷ 0 ∷
    -- 55 flight level
    tag.level ∷ number ∷ 2 ∷ 1 ∷ 117 ∷ 56 ∷ 0 ∷ 0 ∷
    -- 56 metric flight level
    tag.level ∷ number ∷ 3 ∷ 1 ∷ 118 ∷ 57 ∷ 0 ∷ 0 ∷
    -- 57 degrees
    tag.degrees ∷ number ∷ 0 ∷ 2 ∷ 119 ∷ 58 ∷ 0 ∷ 0 ∷
    -- 58 HF
    tag.frequency ∷ number ∷ 0 ∷ 1 ∷ 120 ∷ 59 ∷ 0 ∷ 0 ∷
    -- 59 VHF
    tag.frequency ∷ number ∷ 1 ∷ 1 ∷ 121 ∷ 60 ∷ 0 ∷ 0 ∷
    -- 60 UHF
    tag.frequency ∷ number ∷ 2 ∷ 1 ∷ 122 ∷ 61 ∷ 0 ∷ 0 ∷
    -- 61 satellite
    tag.frequency ∷ number ∷ 3 ∷ 1 ∷ 123 ∷ 62 ∷ 0 ∷ 0 ∷
    -- 62 code-digit
    tag.code_digit ∷ number ∷ 0 ∷ 8 ∷ 128 ∷ 63 ∷ 0 ∷ 0 ∷
    -- 63 traffic-type
    tag.traffic_type ∷ reason ∷ 0 ∷ 6 ∷ 1 ∷ 64 ∷ 0 ∷ 0 ∷
    -- 64 clearance-type
    tag.clearance_type ∷ reason ∷ 0 ∷ 12 ∷ 1 ∷ 65 ∷ 0 ∷ 0 ∷
    -- 65 error-information
    tag.error_information ∷ reason ∷ 0 ∷ 5 ∷ 1 ∷ 66 ∷ 0 ∷ 0 ∷
    -- 66 facility-function
    tag.facility_function ∷ reason ∷ 0 ∷ 9 ∷ 1 ∷ 67 ∷ 0 ∷ 0 ∷
    -- 67 procedure
    tag.procedure ∷ number ∷ 0 ∷ 3 ∷ 131 ∷ 68 ∷ 0 ∷ 0 ∷
    -- 68 runway
    tag.runway ∷ number ∷ 1 ∷ 64 ∷ 133 ∷ 69 ∷ 0 ∷ 0 ∷
    -- 69 coordinates alone
    tag.coordinates ∷ number ∷ 0 ∷ 1 ∷ 82 ∷ 70 ∷ 0 ∷ 0 ∷
    -- 70 flight-identification
    tag.flight_identification ∷ text ∷ 2 ∷ 8 ∷ 71 ∷ 38 ∷ 75 ∷ 0 ∷
    -- 71 departure from a fix
    tag.position ∷ number ∷ 0 ∷ 1 ∷ 77 ∷ 72 ∷ 0 ∷ 0 ∷
    -- 72 departure from a navaid
    tag.position ∷ number ∷ 1 ∷ 1 ∷ 78 ∷ 73 ∷ 0 ∷ 0 ∷
    -- 73 departure from an airport
    tag.position ∷ number ∷ 2 ∷ 1 ∷ 79 ∷ 74 ∷ 0 ∷ 0 ∷
    -- 74 departure by coordinates
    tag.position ∷ number ∷ 3 ∷ 1 ∷ 81 ∷ 0 ∷ 0 ∷ 0 ∷
    -- 75 flight-information
    tag.flight_information ∷ number ∷ 1 ∷ 1 ∷ 76 ∷ 76 ∷ 0 ∷ 0 ∷
    -- 76 further-instructions
    tag.further_instructions ∷ number ∷ 1 ∷ 1 ∷ 38 ∷ 38 ∷ 0 ∷ 0 ∷
    -- 77 fix
    tag.fix ∷ text ∷ 1 ∷ 8 ∷ 80 ∷ 0 ∷ 0 ∷ 0 ∷
    -- 78 navaid
    tag.navaid ∷ text ∷ 1 ∷ 4 ∷ 80 ∷ 0 ∷ 0 ∷ 0 ∷
    -- 79 airport
    tag.airport ∷ text ∷ 4 ∷ 1 ∷ 1 ∷ 0 ∷ 0 ∷ 0 ∷
    -- 80 coordinates of a name
    tag.coordinates ∷ number ∷ 0 ∷ 1 ∷ 82 ∷ 1 ∷ 0 ∷ 0 ∷
    -- 81 coordinates
    tag.coordinates ∷ number ∷ 0 ∷ 1 ∷ 82 ∷ 0 ∷ 0 ∷ 0 ∷
    -- 82 latitude in thousandths
    tag.latitude ∷ number ∷ 0 ∷ 1 ∷ 85 ∷ 83 ∷ 0 ∷ 0 ∷
    -- 83 latitude in hundredths
    tag.latitude ∷ number ∷ 1 ∷ 1 ∷ 86 ∷ 84 ∷ 0 ∷ 0 ∷
    -- 84 latitude in seconds
    tag.latitude ∷ number ∷ 2 ∷ 1 ∷ 88 ∷ 92 ∷ 0 ∷ 0 ∷
    -- 85 latitude-thousandths
    tag.latitude_thousandths ∷ number ∷ 0 ∷ 131072 ∷ 91 ∷ 0 ∷ 0 ∷ 0 ∷
    -- 86 latitude-degrees, hundredths
    tag.latitude_degrees ∷ number ∷ 0 ∷ 128 ∷ 87 ∷ 0 ∷ 0 ∷ 0 ∷
    -- 87 latitude-hundredths
    tag.latitude_hundredths ∷ number ∷ 0 ∷ 8192 ∷ 91 ∷ 0 ∷ 0 ∷ 0 ∷
    -- 88 latitude-degrees, seconds
    tag.latitude_degrees ∷ number ∷ 0 ∷ 128 ∷ 89 ∷ 0 ∷ 0 ∷ 0 ∷
    -- 89 latitude-minutes
    tag.latitude_minutes ∷ number ∷ 0 ∷ 64 ∷ 90 ∷ 0 ∷ 0 ∷ 0 ∷
    -- 90 latitude-seconds
    tag.latitude_seconds ∷ number ∷ 0 ∷ 64 ∷ 91 ∷ 0 ∷ 0 ∷ 0 ∷
    -- 91 latitude-side
    tag.latitude_side ∷ number ∷ 0 ∷ 2 ∷ 92 ∷ 0 ∷ 0 ∷ 0 ∷
    -- 92 longitude in thousandths
    tag.longitude ∷ number ∷ 0 ∷ 1 ∷ 95 ∷ 93 ∷ 0 ∷ 0 ∷
    -- 93 longitude in hundredths
    tag.longitude ∷ number ∷ 1 ∷ 1 ∷ 96 ∷ 94 ∷ 0 ∷ 0 ∷
    -- 94 longitude in seconds
    tag.longitude ∷ number ∷ 2 ∷ 1 ∷ 98 ∷ 1 ∷ 0 ∷ 0 ∷
    -- 95 longitude-thousandths
    tag.longitude_thousandths ∷ number ∷ 0 ∷ 262144 ∷ 101 ∷ 0 ∷ 0 ∷ 0 ∷
    -- 96 longitude-degrees, hundredths
    tag.longitude_degrees ∷ number ∷ 0 ∷ 256 ∷ 97 ∷ 0 ∷ 0 ∷ 0 ∷
    -- 97 longitude-hundredths
    tag.longitude_hundredths ∷ number ∷ 0 ∷ 8192 ∷ 101 ∷ 0 ∷ 0 ∷ 0 ∷
    -- 98 longitude-degrees, seconds
    tag.longitude_degrees ∷ number ∷ 0 ∷ 256 ∷ 99 ∷ 0 ∷ 0 ∷ 0 ∷
    -- 99 longitude-minutes
    tag.longitude_minutes ∷ number ∷ 0 ∷ 64 ∷ 100 ∷ 0 ∷ 0 ∷ 0 ∷
    -- 100 longitude-seconds
    tag.longitude_seconds ∷ number ∷ 0 ∷ 64 ∷ 101 ∷ 0 ∷ 0 ∷ 0 ∷
    -- 101 longitude-side
    tag.longitude_side ∷ number ∷ 0 ∷ 2 ∷ 1 ∷ 0 ∷ 0 ∷ 0 ∷
    -- 102 indicated speed, number
    tag.speed_number ∷ number ∷ 0 ∷ 512 ∷ 1 ∷ 0 ∷ 0 ∷ 0 ∷
    -- 103 indicated speed in km/h, number
    tag.speed_number ∷ number ∷ 0 ∷ 1024 ∷ 1 ∷ 0 ∷ 0 ∷ 0 ∷
    -- 104 true speed, number
    tag.speed_number ∷ number ∷ 0 ∷ 2048 ∷ 1 ∷ 0 ∷ 0 ∷ 0 ∷
    -- 105 true speed in km/h, number
    tag.speed_number ∷ number ∷ 0 ∷ 4096 ∷ 1 ∷ 0 ∷ 0 ∷ 0 ∷
    -- 106 ground speed, number
    tag.speed_number ∷ number ∷ 18446744073709551566 ∷ 50 ∷ 1 ∷ 107 ∷ 0 ∷ 0 ∷
    -- 107 ground speed, number, from zero on
    tag.speed_number ∷ number ∷ 0 ∷ 4046 ∷ 1 ∷ 0 ∷ 0 ∷ 0 ∷
    -- 108 ground speed in km/h, number
    tag.speed_number ∷ number ∷ 18446744073709551516 ∷ 100 ∷ 1 ∷ 109 ∷ 0 ∷ 0 ∷
    -- 109 ground speed in km/h, number, from zero on
    tag.speed_number ∷ number ∷ 0 ∷ 8092 ∷ 1 ∷ 0 ∷ 0 ∷ 0 ∷
    -- 110 Mach, number
    tag.speed_number ∷ number ∷ 500 ∷ 4096 ∷ 1 ∷ 0 ∷ 0 ∷ 0 ∷
    -- 111 second speed-type
    tag.speed_type ∷ reason ∷ 0 ∷ 9 ∷ 112 ∷ 1 ∷ 0 ∷ 0 ∷
    -- 112 third speed-type
    tag.speed_type ∷ reason ∷ 0 ∷ 9 ∷ 1 ∷ 0 ∷ 0 ∷ 0 ∷
    -- 113 level in feet, number
    tag.level_number ∷ number ∷ 18446744073709551556 ∷ 60 ∷ 1 ∷ 114 ∷ 0 ∷ 0 ∷
    -- 114 level in feet, number, from zero on
    tag.level_number ∷ number ∷ 0 ∷ 8132 ∷ 1 ∷ 0 ∷ 0 ∷ 0 ∷
    -- 115 level in metres, number
    tag.level_number ∷ number ∷ 18446744073709551586 ∷ 30 ∷ 1 ∷ 116 ∷ 0 ∷ 0 ∷
    -- 116 level in metres, number, from zero on
    tag.level_number ∷ number ∷ 0 ∷ 32738 ∷ 1 ∷ 0 ∷ 0 ∷ 0 ∷
    -- 117 flight level, number
    tag.level_number ∷ number ∷ 30 ∷ 1024 ∷ 1 ∷ 0 ∷ 0 ∷ 0 ∷
    -- 118 metric flight level, number
    tag.level_number ∷ number ∷ 100 ∷ 4096 ∷ 1 ∷ 0 ∷ 0 ∷ 0 ∷
    -- 119 degrees-number
    tag.degrees_number ∷ number ∷ 1 ∷ 512 ∷ 1 ∷ 0 ∷ 0 ∷ 0 ∷
    -- 120 HF, number
    tag.frequency_number ∷ number ∷ 2850 ∷ 32768 ∷ 1 ∷ 0 ∷ 0 ∷ 0 ∷
    -- 121 VHF, number
    tag.frequency_number ∷ number ∷ 23600 ∷ 4096 ∷ 1 ∷ 0 ∷ 0 ∷ 0 ∷
    -- 122 UHF, number
    tag.frequency_number ∷ number ∷ 9000 ∷ 8192 ∷ 1 ∷ 0 ∷ 0 ∷ 0 ∷
    -- 123 satellite-channel
    tag.satellite_channel ∷ channel ∷ 8 ∷ 0 ∷ 124 ∷ 0 ∷ 0 ∷ 0 ∷
    -- 124 satellite-channel of digits
    tag.satellite_channel ∷ digits ∷ 4 ∷ 0 ∷ 126 ∷ 125 ∷ 0 ∷ 0 ∷
    -- 125 satellite-channel of others
    tag.satellite_channel ∷ channel ∷ 4 ∷ 0 ∷ 1 ∷ 0 ∷ 0 ∷ 0 ∷
    -- 126 satellite-channel-x691
    tag.satellite_channel_x691 ∷ spaced ∷ 8 ∷ 0 ∷ 127 ∷ 0 ∷ 0 ∷ 0 ∷
    -- 127 satellite-channel-x691, its end
    tag.satellite_channel_x691 ∷ spaced ∷ 4 ∷ 0 ∷ 1 ∷ 0 ∷ 0 ∷ 0 ∷
    -- 128 second code-digit
    tag.code_digit ∷ number ∷ 0 ∷ 8 ∷ 129 ∷ 0 ∷ 0 ∷ 0 ∷
    -- 129 third code-digit
    tag.code_digit ∷ number ∷ 0 ∷ 8 ∷ 130 ∷ 0 ∷ 0 ∷ 0 ∷
    -- 130 fourth code-digit
    tag.code_digit ∷ number ∷ 0 ∷ 8 ∷ 1 ∷ 0 ∷ 0 ∷ 0 ∷
    -- 131 procedure-name
    tag.procedure_name ∷ text ∷ 1 ∷ 32 ∷ 132 ∷ 0 ∷ 0 ∷ 0 ∷
    -- 132 procedure-transition
    tag.procedure_transition ∷ text ∷ 1 ∷ 8 ∷ 1 ∷ 1 ∷ 0 ∷ 0 ∷
    -- 133 runway-side
    tag.runway_side ∷ number ∷ 0 ∷ 4 ∷ 1 ∷ 0 ∷ 0 ∷ 0 ∷
    -- 134 clearance
    tag.clearance ∷ clearance ∷ 0 ∷ 2 ∷ 135 ∷ 2 ∷ 0 ∷ 0 ∷
    -- 135 departure-airport
    tag.departure_airport ∷ text ∷ 4 ∷ 1 ∷ 136 ∷ 136 ∷ 0 ∷ 0 ∷
    -- 136 destination-airport
    tag.destination_airport ∷ text ∷ 4 ∷ 1 ∷ 137 ∷ 137 ∷ 0 ∷ 0 ∷
    -- 137 departure-runway
    tag.departure_runway ∷ number ∷ 1 ∷ 64 ∷ 138 ∷ 139 ∷ 0 ∷ 0 ∷
    -- 138 departure-runway-side
    tag.departure_runway_side ∷ number ∷ 0 ∷ 4 ∷ 139 ∷ 0 ∷ 0 ∷ 0 ∷
    -- 139 departure-procedure
    tag.departure_procedure ∷ number ∷ 0 ∷ 3 ∷ 140 ∷ 148 ∷ 0 ∷ 0 ∷
    -- 140 departure-procedure-name
    tag.departure_procedure_name ∷ text ∷ 1 ∷ 32 ∷ 141 ∷ 0 ∷ 0 ∷ 0 ∷
    -- 141 departure-procedure-transition
    tag.departure_procedure_transition ∷ text ∷ 1 ∷ 8 ∷ 148 ∷ 148 ∷ 0 ∷ 0 ∷
    -- 142 approach-procedure
    tag.approach_procedure ∷ number ∷ 0 ∷ 3 ∷ 143 ∷ 145 ∷ 0 ∷ 0 ∷
    -- 143 approach-procedure-name
    tag.approach_procedure_name ∷ text ∷ 1 ∷ 32 ∷ 144 ∷ 0 ∷ 0 ∷ 0 ∷
    -- 144 approach-procedure-transition
    tag.approach_procedure_transition ∷ text ∷ 1 ∷ 8 ∷ 145 ∷ 145 ∷ 0 ∷ 0 ∷
    -- 145 arrival-procedure
    tag.arrival_procedure ∷ number ∷ 0 ∷ 3 ∷ 146 ∷ 150 ∷ 0 ∷ 0 ∷
    -- 146 arrival-procedure-name
    tag.arrival_procedure_name ∷ text ∷ 1 ∷ 32 ∷ 147 ∷ 0 ∷ 0 ∷ 0 ∷
    -- 147 arrival-procedure-transition
    tag.arrival_procedure_transition ∷ text ∷ 1 ∷ 8 ∷ 150 ∷ 150 ∷ 0 ∷ 0 ∷
    -- 148 arrival-runway
    tag.arrival_runway ∷ number ∷ 1 ∷ 64 ∷ 149 ∷ 142 ∷ 0 ∷ 0 ∷
    -- 149 arrival-runway-side
    tag.arrival_runway_side ∷ number ∷ 0 ∷ 4 ∷ 142 ∷ 0 ∷ 0 ∷ 0 ∷
    -- 150 leg
    tag.leg ∷ place ∷ 0 ∷ 128 ∷ 152 ∷ 151 ∷ 0 ∷ 0 ∷
    -- 151 additional
    tag.additional ∷ number ∷ 1 ∷ 1 ∷ 134 ∷ 134 ∷ 0 ∷ 0 ∷
    -- 152 leg by a place
    tag.route_information ∷ number ∷ 0 ∷ 1 ∷ 157 ∷ 153 ∷ 150 ∷ 0 ∷
    -- 153 leg by coordinates
    tag.route_information ∷ number ∷ 1 ∷ 1 ∷ 81 ∷ 154 ∷ 150 ∷ 0 ∷
    -- 154 leg by two places
    tag.route_information ∷ number ∷ 2 ∷ 1 ∷ 157 ∷ 155 ∷ 163 ∷ 0 ∷
    -- 155 leg by a route
    tag.route_information ∷ number ∷ 4 ∷ 1 ∷ 156 ∷ 0 ∷ 0 ∷ 0 ∷
    -- 156 route-designator
    tag.route_designator ∷ text ∷ 2 ∷ 8 ∷ 150 ∷ 0 ∷ 0 ∷ 0 ∷
    -- 157 published fix
    tag.published ∷ number ∷ 0 ∷ 1 ∷ 161 ∷ 158 ∷ 0 ∷ 0 ∷
    -- 158 published navaid
    tag.published ∷ number ∷ 1 ∷ 1 ∷ 162 ∷ 0 ∷ 0 ∷ 0 ∷
    -- 159 second place, a fix
    tag.published ∷ number ∷ 0 ∷ 1 ∷ 161 ∷ 160 ∷ 164 ∷ 0 ∷
    -- 160 second place, a navaid
    tag.published ∷ number ∷ 1 ∷ 1 ∷ 162 ∷ 0 ∷ 164 ∷ 0 ∷
    -- 161 published-fix
    tag.published_fix ∷ text ∷ 1 ∷ 8 ∷ 80 ∷ 0 ∷ 0 ∷ 0 ∷
    -- 162 published-navaid
    tag.published_navaid ∷ text ∷ 1 ∷ 4 ∷ 80 ∷ 0 ∷ 0 ∷ 0 ∷
    -- 163 first bearing
    tag.degrees ∷ number ∷ 0 ∷ 2 ∷ 119 ∷ 0 ∷ 159 ∷ 0 ∷
    -- 164 second bearing
    tag.degrees ∷ number ∷ 0 ∷ 2 ∷ 119 ∷ 0 ∷ 150 ∷ 0 ∷
    -- 165 cm-ground logon response or update
    tag.cm_ground_pdu ∷ number ∷ 0 ∷ 2 ∷ 175 ∷ 166 ∷ 0 ∷ 0 ∷
    -- 166 cm-ground forward request
    tag.cm_ground_pdu ∷ number ∷ 3 ∷ 1 ∷ 178 ∷ 167 ∷ 0 ∷ 0 ∷
    -- 167 cm-ground abort
    tag.cm_ground_pdu ∷ number ∷ 4 ∷ 1 ∷ 172 ∷ 168 ∷ 0 ∷ 0 ∷
    -- 168 cm-ground forward response
    tag.cm_ground_pdu ∷ number ∷ 5 ∷ 1 ∷ 173 ∷ 169 ∷ 0 ∷ 0 ∷
    -- 169 cm-aircraft logon request
    tag.cm_aircraft_pdu ∷ number ∷ 0 ∷ 1 ∷ 178 ∷ 170 ∷ 0 ∷ 0 ∷
    -- 170 cm-aircraft contact response
    tag.cm_aircraft_pdu ∷ number ∷ 1 ∷ 1 ∷ 174 ∷ 171 ∷ 0 ∷ 0 ∷
    -- 171 cm-aircraft abort
    tag.cm_aircraft_pdu ∷ number ∷ 2 ∷ 1 ∷ 172 ∷ 191 ∷ 0 ∷ 0 ∷
    -- 172 cm-abort-reason
    tag.cm_abort_reason ∷ reason ∷ 0 ∷ 16 ∷ 40 ∷ 0 ∷ 0 ∷ 0 ∷
    -- 173 cm-forward-response
    tag.cm_forward_response ∷ number ∷ 0 ∷ 4 ∷ 40 ∷ 0 ∷ 0 ∷ 0 ∷
    -- 174 contact-response
    tag.contact_response ∷ number ∷ 0 ∷ 2 ∷ 40 ∷ 0 ∷ 0 ∷ 0 ∷
    -- 175 ground-only-initiated
    tag.ground_only_initiated ∷ place ∷ 0 ∷ 256 ∷ 176 ∷ 40 ∷ 175 ∷ 0 ∷
    -- 176 ae-qualifier
    tag.ae_qualifier ∷ number ∷ 0 ∷ 256 ∷ 177 ∷ 0 ∷ 0 ∷ 0 ∷
    -- 177 ap-version
    tag.ap_version ∷ number ∷ 1 ∷ 256 ∷ 1 ∷ 0 ∷ 0 ∷ 0 ∷
    -- 178 flight-id
    tag.flight_id ∷ text ∷ 2 ∷ 8 ∷ 179 ∷ 0 ∷ 0 ∷ 0 ∷
    -- 179 rdp
    tag.rdp ∷ span ∷ 40 ∷ 1 ∷ 180 ∷ 0 ∷ 0 ∷ 0 ∷
    -- 180 ars
    tag.ars ∷ span ∷ 24 ∷ 1 ∷ 181 ∷ 181 ∷ 0 ∷ 0 ∷
    -- 181 loc-sys-nsel-tsel
    tag.loc_sys_nsel_tsel ∷ span ∷ 80 ∷ 1 ∷ 183 ∷ 182 ∷ 0 ∷ 0 ∷
    -- 182 loc-sys-nsel-tsel of 11 octets
    tag.loc_sys_nsel_tsel ∷ span ∷ 88 ∷ 1 ∷ 183 ∷ 0 ∷ 0 ∷ 0 ∷
    -- 183 air-only-initiated
    tag.air_only_initiated ∷ place ∷ 0 ∷ 256 ∷ 176 ∷ 184 ∷ 183 ∷ 0 ∷
    -- 184 airport-departure
    tag.airport_departure ∷ text ∷ 4 ∷ 1 ∷ 185 ∷ 185 ∷ 0 ∷ 0 ∷
    -- 185 airport-destination
    tag.airport_destination ∷ text ∷ 4 ∷ 1 ∷ 186 ∷ 186 ∷ 0 ∷ 0 ∷
    -- 186 etd-year
    tag.etd_year ∷ number ∷ 1996 ∷ 128 ∷ 187 ∷ 40 ∷ 0 ∷ 0 ∷
    -- 187 etd-month
    tag.etd_month ∷ number ∷ 1 ∷ 16 ∷ 188 ∷ 0 ∷ 0 ∷ 0 ∷
    -- 188 etd-day
    tag.etd_day ∷ number ∷ 1 ∷ 32 ∷ 189 ∷ 0 ∷ 0 ∷ 0 ∷
    -- 189 etd-hours
    tag.etd_hours ∷ number ∷ 0 ∷ 32 ∷ 190 ∷ 0 ∷ 0 ∷ 0 ∷
    -- 190 etd-minutes
    tag.etd_minutes ∷ number ∷ 0 ∷ 64 ∷ 40 ∷ 0 ∷ 0 ∷ 0 ∷
    -- 191 aarq or aare
    tag.acse_pdu ∷ number ∷ 0 ∷ 2 ∷ 40 ∷ 192 ∷ 0 ∷ 0 ∷
    -- 192 rlrq
    tag.acse_pdu ∷ number ∷ 2 ∷ 1 ∷ 196 ∷ 193 ∷ 0 ∷ 0 ∷
    -- 193 rlre
    tag.acse_pdu ∷ number ∷ 3 ∷ 1 ∷ 197 ∷ 194 ∷ 0 ∷ 0 ∷
    -- 194 abrt
    tag.acse_pdu ∷ number ∷ 4 ∷ 1 ∷ 198 ∷ 195 ∷ 0 ∷ 0 ∷
    -- 195 acse extension-alternative
    tag.acse_pdu ∷ note ∷ 0 ∷ 1 ∷ 40 ∷ 0 ∷ 0 ∷ 0 ∷
    -- 196 release-request-reason
    tag.release_request_reason ∷ release ∷ 0 ∷ 32 ∷ 40 ∷ 40 ∷ 0 ∷ 0 ∷
    -- 197 release-response-reason
    tag.release_response_reason ∷ release ∷ 0 ∷ 32 ∷ 40 ∷ 40 ∷ 0 ∷ 0 ∷
    -- 198 abort-source
    tag.abort_source ∷ reason ∷ 0 ∷ 2 ∷ 199 ∷ 40 ∷ 0 ∷ 0 ∷
    -- 199 abort-diagnostic
    tag.abort_diagnostic ∷ reason ∷ 0 ∷ 8 ∷ 40 ∷ 40 ∷ 0 ∷ 0 ∷
    []
