-- The rows of the table of ranges by their names, which are those of the constants in src/table.rt.
use Rattle.std.specs.Prelude.{ℕ}

abbrev pub side : ℕ
side = 0

abbrev pub year : ℕ
year = 1

abbrev pub month : ℕ
month = 2

abbrev pub day : ℕ
day = 3

abbrev pub hours : ℕ
hours = 4

abbrev pub minutes : ℕ
minutes = 5

abbrev pub msg_id : ℕ
msg_id = 6

abbrev pub latitude_thousandths : ℕ
latitude_thousandths = 7

abbrev pub latitude_degrees : ℕ
latitude_degrees = 8

abbrev pub hundredths : ℕ
hundredths = 9

abbrev pub longitude_thousandths : ℕ
longitude_thousandths = 10

abbrev pub longitude_degrees : ℕ
longitude_degrees = 11

abbrev pub degrees_0 : ℕ
degrees_0 = 12

abbrev pub degrees_1 : ℕ
degrees_1 = 13

abbrev pub speed_0 : ℕ
speed_0 = 14

abbrev pub speed_1 : ℕ
speed_1 = 15

abbrev pub speed_2 : ℕ
speed_2 = 16

abbrev pub speed_3 : ℕ
speed_3 = 17

abbrev pub speed_4 : ℕ
speed_4 = 18

abbrev pub speed_5 : ℕ
speed_5 = 19

abbrev pub speed_6 : ℕ
speed_6 = 20

abbrev pub level_0 : ℕ
level_0 = 21

abbrev pub level_1 : ℕ
level_1 = 22

abbrev pub level_2 : ℕ
level_2 = 23

abbrev pub level_3 : ℕ
level_3 = 24

abbrev pub frequency_0 : ℕ
frequency_0 = 25

abbrev pub frequency_1 : ℕ
frequency_1 = 26

abbrev pub frequency_2 : ℕ
frequency_2 = 27

abbrev pub code_digit : ℕ
code_digit = 28

abbrev pub speed_type : ℕ
speed_type = 29

abbrev pub traffic_type : ℕ
traffic_type = 30

abbrev pub clearance_type : ℕ
clearance_type = 31

abbrev pub error_information : ℕ
error_information = 32

abbrev pub facility_function : ℕ
facility_function = 33

abbrev pub procedure : ℕ
procedure = 34

abbrev pub runway : ℕ
runway = 35

abbrev pub runway_side : ℕ
runway_side = 36

abbrev pub user_abort_reason : ℕ
user_abort_reason = 37

abbrev pub provider_abort_reason : ℕ
provider_abort_reason = 38

abbrev pub forward_response : ℕ
forward_response = 39

abbrev pub cm_abort_reason : ℕ
cm_abort_reason = 40

abbrev pub cm_forward_response : ℕ
cm_forward_response = 41

abbrev pub abort_diagnostic : ℕ
abort_diagnostic = 42

abbrev pub ae_qualifier : ℕ
ae_qualifier = 43

abbrev pub ap_version : ℕ
ap_version = 44

abbrev pub fix_size : ℕ
fix_size = 45

abbrev pub navaid_size : ℕ
navaid_size = 46

abbrev pub airport_size : ℕ
airport_size = 47

abbrev pub procedure_size : ℕ
procedure_size = 48

abbrev pub transition_size : ℕ
transition_size = 49

abbrev pub flight_size : ℕ
flight_size = 50

abbrev pub route_size : ℕ
route_size = 51

abbrev pub channel_size : ℕ
channel_size = 52

abbrev pub selector_size : ℕ
selector_size = 53

abbrev pub elements : ℕ
elements = 54

abbrev pub clearances : ℕ
clearances = 55

abbrev pub legs : ℕ
legs = 56

abbrev pub applications : ℕ
applications = 57

abbrev pub release_reason : ℕ
release_reason = 58
