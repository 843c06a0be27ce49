-- The parts of a route clearance in three groups, and what is given up.
use Rattle.std.specs.Prelude.{◌≡◌, ℕ, ◌+◌, ◌-◌, ◌<◌, List}
use Rattle.x691.specs.Bits.{bit_of, uint}
use Rattle.atn.specs.Format.{Flds, end, ◌⨾?◌, unread, many}
use Rattle.atn.specs.Messages as message
use Rattle.atn.specs.Tags as tag
use Rattle.cursor.specs.declared.place.Cursor.{Cursor}
use Rattle.cursor.specs.Place.{Inside}

abbrev pub route_fields : Flds
route_fields = many 1 128 message.leg ⨾? unread tag.additional end

abbrev pub clearance_fields : Flds
clearance_fields =
    message.ia5 tag.departure_airport 4 4
    ⨾? message.ia5 tag.destination_airport 4 4
    ⨾? message.runway tag.departure_runway tag.departure_runway_side
    ⨾? message.procedure tag.departure_procedure tag.departure_procedure_name tag.departure_procedure_transition
    ⨾? message.runway tag.arrival_runway tag.arrival_runway_side
    ⨾? message.procedure tag.approach_procedure tag.approach_procedure_name tag.approach_procedure_transition
    ⨾? message.procedure tag.arrival_procedure tag.arrival_procedure_name tag.arrival_procedure_transition
    ⨾? many 1 128 message.leg
    ⨾? unread tag.additional end

-- the bits that are left of the window, where they are fewer than nine
pub record Rest (s : List ℕ) (c : Cursor) (v : ℕ) : Type 0 where
  pub bits : Inside s c → c.why ≡ 0 → c.end < c.at + 9 → v ≡ uint (bit_of s) c.at (c.end - c.at)
