-- The fixed words of the source's tables, each table as lines.
use Rattle.std.specs.Prelude.{List, ℕ}
use Rattle.screen_bytes.specs.Text.{bytes}

-- `read_speed_type`
unfoldable pub speed_types : List ℕ
speed_types = bytes "NONE\nINDICATED\nTRUE\nGROUND\nMACH\nAPPROACH\nCRUISE\nMINIMUM\nMAXIMUM\n"

-- `read_traffic_type`
unfoldable pub traffic_types : List ℕ
traffic_types = bytes "NONE\nOPPOSITE DIRECTION\nSAME DIRECTION\nCONVERGING\nCROSSING\nDIVERGING\n"

-- `read_clearance_type`
unfoldable pub clearance_types : List ℕ
clearance_types = bytes "NONE\nAPPROACH\nDEPARTURE\nFURTHER\nSTART-UP\nPUSHBACK\nTAXI\nTAKE-OFF\nLANDING\nOCEANIC\nEN-ROUTE\nDOWNSTREAM\n"

-- `read_error_information`
unfoldable pub error_information : List ℕ
error_information = bytes "UNRECOGNIZED MSG REFERENCE NUMBER\nLOGICAL ACKNOWLEDGMENT NOT ACCEPTED\nINSUFFICIENT RESOURCES\nINVALID MESSAGE ELEMENT COMBINATION\nINVALID MESSAGE ELEMENT\n"

-- `read_facility_function`
unfoldable pub facility_functions : List ℕ
facility_functions = bytes "CENTER\nAPPROACH\nTOWER\nFINAL\nGROUND\nDELIVERY\nDEPARTURE\nCONTROL\nRADIO\n"

-- `read_procedure`
unfoldable pub procedure_types : List ℕ
procedure_types = bytes "ARRIVAL\nAPPROACH\nDEPARTURE\n"

-- `read_runway`: a fourth side has no letter
unfoldable pub runway_sides : List ℕ
runway_sides = bytes "L\nR\nC\n"

-- `read_speed`, but for the Mach number
unfoldable pub speed_units : List ℕ
speed_units = bytes " KT IAS\n KM/H IAS\n KT TAS\n KM/H TAS\n KT GS\n KM/H GS\n"

-- `read_degrees`
unfoldable pub norths : List ℕ
norths = bytes "M\nT\n"
