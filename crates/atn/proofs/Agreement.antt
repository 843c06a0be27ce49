-- The formats are the schema's types with tags and tolerance added: their types are the schema's.
use mathlib.Core.Path.{◌≡◌, refl, sym}
use mathlib.Core.List.{List, [], ◌∷◌}
use Prim.Native.Nat.{ℕ, zero, suc}
use lib.ListN.{get_or, get_or-map}
use Rattle.x691.specs.Types.{UNLISTED}
use Rattle.atn.specs.Format.{type_of, alternatives_of}
use Rattle.atn.specs.Schema.{argument_types, MsgElementId, AircraftPDUs, GroundPDUs, CMGroundMessage, CMAircraftMessage, ACSE-apdu}
use Rattle.atn.specs.Messages.{arguments, argument_of, no_reader, elements, aircraft_pdus, ground_pdus, cm_ground, cm_aircraft, acse}

argument_type : (k : ℕ) → type_of (argument_of k) ≡ get_or argument_types k UNLISTED
unfolding argument_of
argument_type zero = refl
argument_type (suc k) = sym (get_or-map type_of arguments k no_reader)

pub element_types : (table : List ℕ) → alternatives_of (elements table) ≡ MsgElementId table
unfolding elements MsgElementId
element_types [] = refl
element_types (k ∷ table) = rw (argument_type k, element_types table)

pub aircraft_type : (down : List ℕ) → type_of (aircraft_pdus down) ≡ AircraftPDUs down
aircraft_type down = rw (element_types down)

pub ground_type : (down up : List ℕ) → type_of (ground_pdus down up) ≡ GroundPDUs down up
ground_type down up = rw (element_types down, element_types up)

pub cm_ground_type : type_of cm_ground ≡ CMGroundMessage
cm_ground_type = refl

pub cm_aircraft_type : type_of cm_aircraft ≡ CMAircraftMessage
cm_aircraft_type = refl

pub acse_type : type_of acse ≡ ACSE-apdu
acse_type = refl
