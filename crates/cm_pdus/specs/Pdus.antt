-- The messages of the two sides.
use Rattle.std.specs.Prelude.{Bool, true, false}
use Rattle.atn.specs.Format.{Fmt, num, Alts, none_left, ◌∥◌}
use Rattle.atn.specs.Messages.{unsupplied, cm_logon_request, cm_logon_response, cm_abort, cm_ground, cm_aircraft}
use Rattle.atn.specs.Tags as tag

abbrev pub ground_pdus : Alts
ground_pdus = cm_logon_response ∥ cm_logon_response ∥ unsupplied ∥ cm_logon_request ∥ cm_abort ∥ num tag.cm_forward_response 0 2 ∥ none_left

abbrev pub aircraft_pdus : Alts
aircraft_pdus = cm_logon_request ∥ num tag.contact_response 0 1 ∥ cm_abort ∥ none_left

-- the messages of the ground, or those of the aircraft
abbrev pub pdu_of : Bool → Fmt
pdu_of true = cm_ground
pdu_of false = cm_aircraft
