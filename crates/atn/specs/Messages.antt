-- The messages of document 01 as formats: the schema's types with the tags of their records and with what the source tolerates.
use Rattle.std.specs.Prelude.{true, false, List, [], ◌∷◌, ℕ, get_or}
use Rattle.atn.specs.Format.{Fmt, num, listed, name, text, span, any_span, skipped, small, null, noted, placed, marked, refuse, element, ext, seq, loose, choice, many, inner, soft, lax}
use Rattle.atn.specs.Format.{end, ◌⨾◌, ◌⨾?◌, or_note, unread, Alts, none_left, ◌∥◌, first, numeric, bad, lack}
use Rattle.atn.specs.Reading.{mark}
use Rattle.atn.specs.Schema.{minus}
use Rattle.atn.specs.Tags as tag

---------------------------------------------------------------- shapes

-- a text of IA5 characters
abbrev pub ia5 : ℕ → ℕ → ℕ → Fmt
ia5 t lo hi = text t 128 (first 0) lo hi

-- a NumericString: tags of the source's text and of X.680's
abbrev pub numeric_string : ℕ → ℕ → ℕ → ℕ → Fmt
numeric_string t u lo hi = text t 11 (numeric u) lo hi

-- "(extended)": value 0 and second number 1
abbrev pub extended : ℕ → Fmt
extended t = noted t 0 1 null

-- a name with an extension marker; a number above the last name fails in an argument, and is told in a reason
abbrev pub ext_name : ℕ → ℕ → Fmt
ext_name t hi = ext (name t hi) (extended t)

abbrev pub ext_reason : ℕ → ℕ → Fmt
ext_reason t hi = ext (num t 0 hi) (extended t)

-- what the source has no reader for, and what document 01 does not supply
abbrev pub no_reader : Fmt
no_reader = refuse bad 0

abbrev pub unlisted : Fmt
unlisted = refuse bad (mark 1)

abbrev pub unsupplied : Fmt
unsupplied = refuse lack 0

---------------------------------------------------------------- times

abbrev pub date_time_group : Fmt
date_time_group =
    seq (seq (num tag.year 1996 2095 ⨾ num tag.month 1 12 ⨾ num tag.day 1 31 ⨾ end) ⨾ seq (num tag.hours 0 23 ⨾ num tag.minutes 0 59 ⨾ num tag.seconds 0 59 ⨾ end) ⨾ end)

---------------------------------------------------------------- places

abbrev pub latitude : Fmt
latitude =
    seq
    (choice tag.latitude
    (num tag.latitude_thousandths 0 90000
    ∥ seq (num tag.latitude_degrees 0 89 ⨾ num tag.latitude_hundredths 0 5999 ⨾ end)
    ∥ seq (num tag.latitude_degrees 0 89 ⨾ num tag.latitude_minutes 0 59 ⨾ num tag.latitude_seconds 0 59 ⨾ end)
    ∥ none_left)
    ⨾ num tag.latitude_side 0 1
    ⨾ end)

abbrev pub longitude : Fmt
longitude =
    seq
    (choice tag.longitude
    (num tag.longitude_thousandths 0 180000
    ∥ seq (num tag.longitude_degrees 0 179 ⨾ num tag.longitude_hundredths 0 5999 ⨾ end)
    ∥ seq (num tag.longitude_degrees 0 179 ⨾ num tag.longitude_minutes 0 59 ⨾ num tag.longitude_seconds 0 59 ⨾ end)
    ∥ none_left)
    ⨾ num tag.longitude_side 0 1
    ⨾ end)

abbrev pub latlon : Fmt
latlon = noted tag.coordinates 0 0 (seq (latitude ⨾? longitude ⨾? end))

abbrev pub named : ℕ → ℕ → Fmt
named t most = seq (ia5 t 1 most ⨾ latlon ⨾? end)

abbrev pub position : Fmt
position = choice tag.position (named tag.fix 5 ∥ named tag.navaid 4 ∥ ia5 tag.airport 4 4 ∥ latlon ∥ unlisted ∥ none_left)

abbrev pub published : Fmt
published = choice tag.published (named tag.published_fix 5 ∥ named tag.published_navaid 4 ∥ none_left)

---------------------------------------------------------------- the arguments of elements

abbrev pub degrees : Fmt
degrees = choice tag.degrees (num tag.degrees_number 1 360 ∥ num tag.degrees_number 1 360 ∥ none_left)

abbrev pub speed : Fmt
speed =
    choice tag.speed
    (num tag.speed_number 0 400
    ∥ num tag.speed_number 0 800
    ∥ num tag.speed_number 0 2000
    ∥ num tag.speed_number 0 4000
    ∥ num tag.speed_number (minus 50) 2000
    ∥ num tag.speed_number (minus 100) 4000
    ∥ num tag.speed_number 500 4000
    ∥ none_left)

abbrev pub speed_type : Fmt
speed_type = ext_name tag.speed_type 8

abbrev pub level_type : Fmt
level_type = choice tag.level (num tag.level_number (minus 60) 7000 ∥ num tag.level_number (minus 30) 25000 ∥ num tag.level_number 30 700 ∥ num tag.level_number 100 2500 ∥ none_left)

abbrev pub frequency : Fmt
frequency = choice tag.frequency (num tag.frequency_number 2850 28000 ∥ num tag.frequency_number 23600 27398 ∥ num tag.frequency_number 9000 15999 ∥ numeric_string tag.satellite_channel tag.satellite_channel_x691 12 12 ∥ none_left)

abbrev pub code : Fmt
code = many 4 4 (num tag.code_digit 0 7)

-- tags of the kind, the name and the transition
abbrev pub procedure : ℕ → ℕ → ℕ → Fmt
procedure t u v = seq (name t 2 ⨾ ia5 u 1 20 ⨾ ia5 v 1 5 ⨾? end)

-- tags of the direction and the side
abbrev pub runway : ℕ → ℕ → Fmt
runway t u = seq (num t 1 36 ⨾ num u 0 3 ⨾ end)

abbrev pub departure_clearance : Fmt
departure_clearance = seq (ia5 tag.flight_identification 2 8 ⨾ position ⨾ unread tag.flight_information (unread tag.further_instructions end))

-- the arguments by the byte of the lent table, from byte 1 on
abbrev pub arguments : List Fmt
arguments =
    position
    ∷ speed
    ∷ speed_type
    ∷ many 3 3 speed_type
    ∷ level_type
    ∷ degrees
    ∷ frequency
    ∷ code
    ∷ ext_name tag.traffic_type 5
    ∷ ext_name tag.clearance_type 11
    ∷ ext_name tag.error_information 4
    ∷ ext_name tag.facility_function 8
    ∷ procedure tag.procedure tag.procedure_name tag.procedure_transition
    ∷ runway tag.runway tag.runway_side
    ∷ latlon
    ∷ departure_clearance
    ∷ []

-- "An argument that cannot be read leaves its element without fields, stops the walk and skips the clearances": mark 3
abbrev pub argument : Fmt → Fmt
argument f = lax 3 false f

-- the elements of a lent table, by their index: byte 0 is NULL
unfoldable pub argument_of : ℕ → Fmt
argument_of ℕ.zero = null
argument_of (ℕ.suc k) = argument (get_or arguments k no_reader)

unfoldable pub elements : List ℕ → Alts
elements [] = none_left
elements (k ∷ table) = argument_of k ∥ elements table

---------------------------------------------------------------- route clearances

abbrev pub leg : Fmt
leg =
    placed tag.leg
    (choice tag.route_information
    (published
    ∥ latlon
    ∥ many 2 2 (seq (published ⨾ degrees ⨾ end))
    ∥ seq (published ⨾ degrees ⨾ unsupplied ⨾ end)
    ∥ ia5 tag.route_designator 2 7
    ∥ none_left))

-- "nine presence bits, those past the window's end absent"
abbrev pub route_clearance : Fmt
route_clearance =
    placed tag.clearance
    (loose
    (ia5 tag.departure_airport 4 4
    ⨾? ia5 tag.destination_airport 4 4
    ⨾? runway tag.departure_runway tag.departure_runway_side
    ⨾? procedure tag.departure_procedure tag.departure_procedure_name tag.departure_procedure_transition
    ⨾? runway tag.arrival_runway tag.arrival_runway_side
    ⨾? procedure tag.approach_procedure tag.approach_procedure_name tag.approach_procedure_transition
    ⨾? procedure tag.arrival_procedure tag.arrival_procedure_name tag.arrival_procedure_transition
    ⨾? many 1 128 leg
    ⨾? unread tag.additional end))

---------------------------------------------------------------- CPDLC

-- "a failed clearance is dropped with all after it": mark 7, and bits left count
abbrev pub constrained_data : Fmt
constrained_data = lax 7 true (ext (seq (many 1 2 (lax 7 true route_clearance) ⨾? end)) null)

abbrev pub message_data : List ℕ → Fmt
message_data table = seq (many 1 5 (element (choice tag.element_index (elements table))) ⨾ constrained_data ⨾? end)

-- a default acknowledgment is 1
abbrev pub atc_message : List ℕ → Fmt
atc_message table = seq (num tag.msg_id 0 63 ⨾ num tag.msg_ref 0 63 ⨾? date_time_group ⨾ or_note tag.logical_ack 1 0 (num tag.logical_ack 0 1) (message_data table ⨾ end))

-- "extension bit (set: 5), two presence bits, optional octets, optional inner message, integrity bits"
abbrev pub protected_message : List ℕ → Fmt
protected_message table = ext (seq (skipped 4 ⨾? or_note tag.empty 1 0 (inner (atc_message table)) (soft 7 false (any_span tag.integrity_check 1) ⨾ end))) no_reader

abbrev pub extension_alternative : Fmt
extension_alternative = noted tag.pdu 0 1 (small 2 tag.extension_index)

abbrev pub aircraft_pdus : List ℕ → Fmt
aircraft_pdus down =
    noted tag.direction 0 0
    (ext
    (choice tag.pdu
    (ext_reason tag.user_abort_reason 12
    ∥ ext_reason tag.provider_abort_reason 7
    ∥ seq (num tag.mode 0 1 ⨾? protected_message down ⨾ end)
    ∥ protected_message down
    ∥ none_left))
    extension_alternative)

-- "its body ending early cuts, with no forward records; carried elements that cannot be read leave its header"
abbrev pub carried : List ℕ → Fmt
carried table = inner (lax 7 false (message_data table))

abbrev pub forward : List ℕ → List ℕ → Fmt
forward down up =
    soft 7 false
    (seq
    (seq (date_time_group ⨾ ia5 tag.aircraft_id 2 8 ⨾ span tag.aircraft_address 1 24 24 ⨾ end)
    ⨾ choice tag.carried_direction (carried up ∥ carried down ∥ none_left)
    ⨾ end))

abbrev pub ground_pdus : List ℕ → List ℕ → Fmt
ground_pdus down up =
    noted tag.direction 1 0
    (ext
    (choice tag.pdu
    (ext_reason tag.user_abort_reason 12
    ∥ ext_reason tag.provider_abort_reason 7
    ∥ protected_message up
    ∥ protected_message up
    ∥ forward down up
    ∥ ext_reason tag.forward_response 2
    ∥ none_left))
    extension_alternative)

---------------------------------------------------------------- Context Management

abbrev pub octet_span : ℕ → ℕ → ℕ → Fmt
octet_span t lo hi = span t 8 lo hi

abbrev pub long_tsap : Fmt
long_tsap = seq (octet_span tag.rdp 5 5 ⨾ seq (octet_span tag.ars 3 3 ⨾? octet_span tag.loc_sys_nsel_tsel 10 11 ⨾ end) ⨾ end)

-- a list of applications, with their addresses or without: tag of an entry's place
abbrev pub applications : ℕ → Fmt
applications t = many 1 256 (placed t (seq (num tag.ae_qualifier 0 255 ⨾ num tag.ap_version 1 255 ⨾ end)))

abbrev pub addressed : ℕ → Fmt
addressed t = many 1 256 (placed t (seq (num tag.ae_qualifier 0 255 ⨾ num tag.ap_version 1 255 ⨾ unsupplied ⨾ end)))

abbrev pub etd : Fmt
etd = seq (seq (num tag.etd_year 1996 2095 ⨾ num tag.etd_month 1 12 ⨾ num tag.etd_day 1 31 ⨾ end) ⨾ seq (num tag.etd_hours 0 23 ⨾ num tag.etd_minutes 0 59 ⨾ end) ⨾ end)

abbrev pub cm_logon_request : Fmt
cm_logon_request =
    seq
    (ia5 tag.flight_id 2 8
    ⨾ long_tsap
    ⨾ addressed tag.ground_initiated
    ⨾? applications tag.air_only_initiated
    ⨾? unsupplied
    ⨾? ia5 tag.airport_departure 4 4
    ⨾? ia5 tag.airport_destination 4 4
    ⨾? etd
    ⨾? end)

abbrev pub cm_logon_response : Fmt
cm_logon_response = seq (addressed tag.air_initiated ⨾? applications tag.ground_only_initiated ⨾? end)

abbrev pub cm_abort : Fmt
cm_abort = ext_reason tag.cm_abort_reason 9

-- "CM refuses a set choice extension with 5"; the third alternative, the contact request, begins with the facility designation, which is not supplied
abbrev pub cm_ground : Fmt
cm_ground = ext (choice tag.cm_ground_pdu (cm_logon_response ∥ cm_logon_response ∥ unsupplied ∥ cm_logon_request ∥ cm_abort ∥ num tag.cm_forward_response 0 2 ∥ none_left)) no_reader

abbrev pub cm_aircraft : Fmt
cm_aircraft = ext (choice tag.cm_aircraft_pdu (cm_logon_request ∥ num tag.contact_response 0 1 ∥ cm_abort ∥ none_left)) no_reader

---------------------------------------------------------------- association control

-- "its fields past the frame's end are cut": what was read before stays
abbrev pub ending : Fmt → Fmt
ending f = soft 7 true f

abbrev pub release : ℕ → Fmt
release t = ending (ext (seq (or_note t 0 2 (ext (listed t 30 (0 ∷ 1 ∷ 30 ∷ [])) (extended t)) end)) null)

abbrev pub abort : Fmt
abort = ending (ext (seq (ext_reason tag.abort_source 1 ⨾ ext_reason tag.abort_diagnostic 5 ⨾? end)) null)

abbrev pub acse : Fmt
acse = ext (choice tag.acse_pdu (marked 3 ∥ marked 3 ∥ release tag.release_request_reason ∥ release tag.release_response_reason ∥ abort ∥ none_left)) (extended tag.acse_pdu)
