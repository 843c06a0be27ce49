-- The tags of the records. docs/TAGS.md says what each one's record holds; no number is used twice.
use Rattle.std.specs.Prelude.{ℕ}

abbrev pub direction : ℕ
direction = 1

abbrev pub pdu : ℕ
pdu = 2

abbrev pub extension_index : ℕ
extension_index = 3

abbrev pub user_abort_reason : ℕ
user_abort_reason = 4

abbrev pub provider_abort_reason : ℕ
provider_abort_reason = 5

abbrev pub forward_response : ℕ
forward_response = 6

abbrev pub mode : ℕ
mode = 7

abbrev pub empty : ℕ
empty = 8

abbrev pub msg_id : ℕ
msg_id = 9

abbrev pub msg_ref : ℕ
msg_ref = 10

abbrev pub year : ℕ
year = 11

abbrev pub month : ℕ
month = 12

abbrev pub day : ℕ
day = 13

abbrev pub hours : ℕ
hours = 14

abbrev pub minutes : ℕ
minutes = 15

abbrev pub seconds : ℕ
seconds = 16

abbrev pub logical_ack : ℕ
logical_ack = 17

abbrev pub integrity_check : ℕ
integrity_check = 18

abbrev pub aircraft_id : ℕ
aircraft_id = 19

abbrev pub aircraft_address : ℕ
aircraft_address = 20

abbrev pub carried_direction : ℕ
carried_direction = 21

abbrev pub element_index : ℕ
element_index = 22

abbrev pub position : ℕ
position = 30

abbrev pub fix : ℕ
fix = 31

abbrev pub navaid : ℕ
navaid = 32

abbrev pub airport : ℕ
airport = 33

abbrev pub coordinates : ℕ
coordinates = 34

abbrev pub latitude : ℕ
latitude = 35

abbrev pub latitude_thousandths : ℕ
latitude_thousandths = 36

abbrev pub latitude_degrees : ℕ
latitude_degrees = 37

abbrev pub latitude_hundredths : ℕ
latitude_hundredths = 38

abbrev pub latitude_minutes : ℕ
latitude_minutes = 39

abbrev pub latitude_seconds : ℕ
latitude_seconds = 40

abbrev pub latitude_side : ℕ
latitude_side = 41

abbrev pub longitude : ℕ
longitude = 42

abbrev pub longitude_thousandths : ℕ
longitude_thousandths = 43

abbrev pub longitude_degrees : ℕ
longitude_degrees = 44

abbrev pub longitude_hundredths : ℕ
longitude_hundredths = 45

abbrev pub longitude_minutes : ℕ
longitude_minutes = 46

abbrev pub longitude_seconds : ℕ
longitude_seconds = 47

abbrev pub longitude_side : ℕ
longitude_side = 48

abbrev pub speed : ℕ
speed = 50

abbrev pub speed_number : ℕ
speed_number = 51

abbrev pub speed_type : ℕ
speed_type = 52

abbrev pub level : ℕ
level = 53

abbrev pub level_number : ℕ
level_number = 54

abbrev pub degrees : ℕ
degrees = 55

abbrev pub degrees_number : ℕ
degrees_number = 56

abbrev pub frequency : ℕ
frequency = 57

abbrev pub frequency_number : ℕ
frequency_number = 58

abbrev pub satellite_channel : ℕ
satellite_channel = 59

abbrev pub code_digit : ℕ
code_digit = 60

abbrev pub traffic_type : ℕ
traffic_type = 61

abbrev pub clearance_type : ℕ
clearance_type = 62

abbrev pub error_information : ℕ
error_information = 63

abbrev pub facility_function : ℕ
facility_function = 64

abbrev pub procedure : ℕ
procedure = 65

abbrev pub procedure_name : ℕ
procedure_name = 66

abbrev pub procedure_transition : ℕ
procedure_transition = 67

abbrev pub runway : ℕ
runway = 68

abbrev pub runway_side : ℕ
runway_side = 69

abbrev pub flight_identification : ℕ
flight_identification = 70

abbrev pub flight_information : ℕ
flight_information = 71

abbrev pub further_instructions : ℕ
further_instructions = 72

abbrev pub satellite_channel_x691 : ℕ
satellite_channel_x691 = 73

abbrev pub clearance : ℕ
clearance = 80

abbrev pub departure_airport : ℕ
departure_airport = 81

abbrev pub destination_airport : ℕ
destination_airport = 82

abbrev pub departure_runway : ℕ
departure_runway = 83

abbrev pub departure_runway_side : ℕ
departure_runway_side = 84

abbrev pub departure_procedure : ℕ
departure_procedure = 85

abbrev pub departure_procedure_name : ℕ
departure_procedure_name = 86

abbrev pub departure_procedure_transition : ℕ
departure_procedure_transition = 87

abbrev pub arrival_runway : ℕ
arrival_runway = 88

abbrev pub arrival_runway_side : ℕ
arrival_runway_side = 89

abbrev pub approach_procedure : ℕ
approach_procedure = 90

abbrev pub approach_procedure_name : ℕ
approach_procedure_name = 91

abbrev pub approach_procedure_transition : ℕ
approach_procedure_transition = 92

abbrev pub arrival_procedure : ℕ
arrival_procedure = 93

abbrev pub arrival_procedure_name : ℕ
arrival_procedure_name = 94

abbrev pub arrival_procedure_transition : ℕ
arrival_procedure_transition = 95

abbrev pub leg : ℕ
leg = 96

abbrev pub route_information : ℕ
route_information = 97

abbrev pub published : ℕ
published = 98

abbrev pub published_fix : ℕ
published_fix = 99

abbrev pub published_navaid : ℕ
published_navaid = 100

abbrev pub route_designator : ℕ
route_designator = 101

abbrev pub additional : ℕ
additional = 102

abbrev pub cm_ground_pdu : ℕ
cm_ground_pdu = 110

abbrev pub cm_aircraft_pdu : ℕ
cm_aircraft_pdu = 111

abbrev pub cm_abort_reason : ℕ
cm_abort_reason = 112

abbrev pub cm_forward_response : ℕ
cm_forward_response = 113

abbrev pub contact_response : ℕ
contact_response = 114

abbrev pub flight_id : ℕ
flight_id = 115

abbrev pub rdp : ℕ
rdp = 116

abbrev pub ars : ℕ
ars = 117

abbrev pub loc_sys_nsel_tsel : ℕ
loc_sys_nsel_tsel = 118

abbrev pub air_initiated : ℕ
air_initiated = 119

abbrev pub ground_only_initiated : ℕ
ground_only_initiated = 120

abbrev pub ground_initiated : ℕ
ground_initiated = 121

abbrev pub air_only_initiated : ℕ
air_only_initiated = 122

abbrev pub ae_qualifier : ℕ
ae_qualifier = 123

abbrev pub ap_version : ℕ
ap_version = 124

abbrev pub airport_departure : ℕ
airport_departure = 125

abbrev pub airport_destination : ℕ
airport_destination = 126

abbrev pub etd_year : ℕ
etd_year = 127

abbrev pub etd_month : ℕ
etd_month = 128

abbrev pub etd_day : ℕ
etd_day = 129

abbrev pub etd_hours : ℕ
etd_hours = 130

abbrev pub etd_minutes : ℕ
etd_minutes = 131

abbrev pub acse_pdu : ℕ
acse_pdu = 140

abbrev pub release_request_reason : ℕ
release_request_reason = 141

abbrev pub release_response_reason : ℕ
release_response_reason = 142

abbrev pub abort_source : ℕ
abort_source = 143

abbrev pub abort_diagnostic : ℕ
abort_diagnostic = 144
