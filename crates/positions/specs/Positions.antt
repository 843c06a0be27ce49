-- Positions and the departure clearance: their records, what telling them needs, and what their readers read.
use Rattle.std.specs.Prelude.{◌≡◌, List, [], ◌∷◌, ◌++◌, ℕ, zero, suc, ◌+◌, ◌≤◌, ◌<◌}
use Rattle.x691.specs.Bits.{bit_of}
use Rattle.atn.specs.Format.{out}
use Rattle.atn.specs.Reading.{Rec, rec, or, unread_mark}
use Rattle.atn.specs.Messages as message
use Rattle.atn.specs.Tags as tag
use Rattle.cursor.specs.declared.place.Cursor.{Cursor}
use Rattle.cursor.specs.declared.place.Got.{Got}
use Rattle.cursor.specs.Place.{number, put, Inside, Takes}
use Rattle.character_strings.specs.Texts.{text_recs}
use Rattle.positions.specs.declared.Position.{Position}
use Rattle.positions.specs.declared.Position.TheVariants.{Fix, Navaid, Airport, Coordinates, Unread}
use Rattle.positions.specs.declared.Departure.{Departure}
use Rattle.angles.specs.Angles.{pair_recs}
use Rattle.named_places.specs.Names.{Held, named_recs}

---------------------------------------------------------------- records

abbrev pub position_recs : List ℕ → Position → ℕ → List Rec
position_recs s (Fix at v) n = rec tag.position n 0 0 at ∷ named_recs tag.fix s v n
position_recs s (Navaid at v) n = rec tag.position n 1 0 at ∷ named_recs tag.navaid s v n
position_recs s (Airport at x) n = rec tag.position n 2 0 at ∷ text_recs tag.airport n s x
position_recs s (Coordinates at v) n = rec tag.position n 3 0 at ∷ pair_recs v n
position_recs s Unread n = []

-- a part that is there, and not read: where the reading stood
abbrev pub note_recs : ℕ → ℕ → ℕ → ℕ → List Rec
note_recs t zero at n = []
note_recs t (suc h) at n = rec t n 1 0 at ∷ []

unfoldable pub departure_recs : List ℕ → Departure → ℕ → List Rec
departure_recs s v n =
    text_recs tag.flight_identification n s v.flight
    ++ (position_recs s v.position n ++ (note_recs tag.flight_information v.information v.notes_at n ++ note_recs tag.further_instructions v.instructions v.notes_at n))

-- the position can be told: so can the text in it
abbrev pub HeldPosition : List ℕ → Position → Type 0
HeldPosition s (Fix at v) = Held s v.name
HeldPosition s (Navaid at v) = Held s v.name
HeldPosition s (Airport at x) = Held s x
HeldPosition s (Coordinates at v) = Unit {0}
HeldPosition s Unread = Unit {0}

---------------------------------------------------------------- readers

pub record Positions (s : List ℕ) (c : Cursor) (r : Got Position) : Type 0 where
  pub reads : Takes message.position s c r.c (position_recs s r.v)
  -- whatever was read
  pub held : HeldPosition s r.v

-- What the presence bit of a part that is not read gave: nothing behind a failure; ran out without moving; or the bit, with its mark.
pub data Flagged (s : List ℕ) (c : Cursor) (g : Got ℕ) : Type 0 where
  shut_already : (c.why ≡ 0 → ⊥) → g.c ≡ c → Flagged s c g
  ran_short : c.why ≡ 0 → c.end < c.at + 1 → g.c ≡ put c c.at (number (out 1)) c.marks → Flagged s c g
  flagged : c.why ≡ 0 → c.at + 1 ≤ c.end → g.v ≡ bit_of s c.at → g.c ≡ put c (c.at + 1) 0 (or c.marks (unread_mark g.v)) → Flagged s c g

pub record Flags (s : List ℕ) (c : Cursor) (g : Got ℕ) : Type 0 where
  pub gave : Inside s c → Flagged s c g

pub record Departures (s : List ℕ) (c : Cursor) (r : Got Departure) : Type 0 where
  pub reads : Takes message.departure_clearance s c r.c (departure_recs s r.v)
  -- whatever was read
  pub held_flight : Held s r.v.flight
  pub held_position : HeldPosition s r.v.position
