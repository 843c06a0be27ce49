-- The legs of a route: their records, what telling them needs, and what their reader reads.
use Rattle.std.specs.Prelude.{◌≡◌, List, [], ◌∷◌, ◌++◌, ℕ}
use Rattle.atn.specs.Format.{Fmt, seq, choice, many, end, ◌⨾◌, none_left, ◌∥◌}
use Rattle.atn.specs.Reading.{Rec, rec}
use Rattle.atn.specs.Messages as message
use Rattle.atn.specs.Tags as tag
use Rattle.cursor.specs.declared.place.Cursor.{Cursor}
use Rattle.cursor.specs.declared.place.Got.{Got}
use Rattle.cursor.specs.Place.{Takes}
use Rattle.character_strings.specs.Texts.{text_recs}
use Rattle.quantities.specs.Records.{quantity_recs}
use Rattle.angles.specs.Angles.{pair_recs}
use Rattle.named_places.specs.Names.{Held, published_recs}
use Rattle.legs.specs.declared.Bearing.{Bearing}
use Rattle.legs.specs.declared.Leg.{Leg}
use Rattle.legs.specs.declared.Leg.TheVariants.{Place, Coordinates, Between, Designator, Unread}

-- a place and its bearing
abbrev pub bearing : Fmt
bearing = seq (message.published ⨾ message.degrees ⨾ end)

-- the same with a distance, which document 01 does not supply
abbrev pub ranging : Fmt
ranging = seq (message.published ⨾ message.degrees ⨾ message.unsupplied ⨾ end)

-- a leg behind the record of its place
abbrev pub route_information : Fmt
route_information = choice tag.route_information (message.published ∥ message.latlon ∥ many 2 2 bearing ∥ ranging ∥ message.ia5 tag.route_designator 2 7 ∥ none_left)

unfoldable pub bearing_recs : List ℕ → Bearing → ℕ → List Rec
bearing_recs s v n = published_recs s v.place n ++ quantity_recs tag.degrees tag.degrees_number v.degrees n

-- by the place where the leg starts, which is its index's; what cannot be read has no records
unfoldable pub leg_recs : List ℕ → ℕ → Leg → ℕ → List Rec
leg_recs s at (Place v) n = rec tag.route_information n 0 0 at ∷ published_recs s v n
leg_recs s at (Coordinates v) n = rec tag.route_information n 1 0 at ∷ pair_recs v n
leg_recs s at (Between v w) n = rec tag.route_information n 2 0 at ∷ (bearing_recs s v n ++ bearing_recs s w n)
leg_recs s at (Designator v) n = rec tag.route_information n 4 0 at ∷ text_recs tag.route_designator n s v
leg_recs s at Unread n = []

-- its texts can be told
unfoldable pub HeldLeg : List ℕ → Leg → Type 0
HeldLeg s (Place v) = Held s v.named.name
HeldLeg s (Coordinates v) = Unit {0}
HeldLeg s (Between v w) = Held s v.place.named.name × Held s w.place.named.name
HeldLeg s (Designator v) = Held s v
HeldLeg s Unread = Unit {0}

pub record Bearings (s : List ℕ) (c : Cursor) (r : Got Bearing) : Type 0 where
  pub reads : Takes bearing s c r.c (bearing_recs s r.v)
  pub held : Held s r.v.place.named.name

-- one that goes on to the distance and stops there
pub record Rangings (s : List ℕ) (c d : Cursor) : Type 0 where
  pub reads : (T : ℕ → List Rec) → Takes ranging s c d T
  pub stops : d.why ≡ 0 → ⊥

pub record Legs (s : List ℕ) (c : Cursor) (r : Got Leg) : Type 0 where
  pub reads : Takes route_information s c r.c (leg_recs s c.at r.v)
  pub held : HeldLeg s r.v
