-- The name in a frame: "for each forward message that the uplink reading calls clean, its aircraft identifier".
use Rattle.std.specs.Prelude.{true, false, cond, ◌&&◌, List, [], ◌∷◌, ℕ, zero, suc, eqb}
use Rattle.atn.specs.Reading.{Rec, rec}
use Rattle.atn.specs.Entries.{Reply, accept, ran_out, badly, unsupplied, read_frame, frame_fits, table_fits}
use Rattle.atn.specs.Messages.{ground_pdus}
use Rattle.atn.specs.Tags as tag
use Rattle.forward_names.specs.declared.Named.{Named}

-- the refusal, the reach, and the bits lacked where the reading ran out
abbrev pub turned : ℕ → ℕ → ℕ → Named
turned n p k = record { number = n; reach = p; lacked = k; text = 0; size = 0 }

abbrev pub nameless : ℕ → ℕ → Named
nameless n p = turned n p 0

-- the identifier has 2 to 8 characters, so that one record holds it: the characters, and how many they are
unfoldable pub identifier : ℕ → List Rec → Named
identifier p [] = nameless 19 p
identifier p (rec t m v n q ∷ R) = cond (eqb t tag.aircraft_id) (record { number = 0; reach = p; lacked = 0; text = v; size = n }) (identifier p R)

-- the records of an uplink begin with its direction and the index of its alternative: 4 is the forward message
unfoldable pub name_in : ℕ → List Rec → Named
name_in p [] = nameless 19 p
name_in p (r ∷ []) = nameless 19 p
name_in p (r ∷ rec t m v n q ∷ R) = cond (eqb t tag.pdu && eqb v 4) (identifier p R) (nameless 19 p)

-- only a clean reading names
unfoldable pub name_of : Reply → Named
name_of (accept false p zero R) = name_in p R
name_of (accept false p (suc m) R) = nameless 19 p
name_of (accept true p m R) = nameless 19 p
name_of (ran_out p k) = turned 4 p k
name_of (badly p) = nameless 5 p
name_of (unsupplied p) = nameless 6 p

-- refusals 1 and 2 come first
unfoldable pub forward_name : List ℕ → List ℕ → List ℕ → Named
forward_name s down up = cond (frame_fits s) (cond (table_fits down && table_fits up) (name_of (read_frame (ground_pdus down up) s)) (nameless 2 0)) (nameless 1 0)
