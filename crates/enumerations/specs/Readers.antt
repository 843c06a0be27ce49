-- What the readers of names read: the formats of document 01, and the records of their values.
use Rattle.std.specs.Prelude.{List, ℕ}
use Rattle.atn.specs.Format.{many}
use Rattle.atn.specs.Messages as message
use Rattle.cursor.specs.declared.place.Cursor.{Cursor}
use Rattle.cursor.specs.declared.place.Got.{Got}
use Rattle.cursor.specs.Place.{Takes}
use Rattle.field_ranges.specs.Ends.{highest}
use Rattle.enumerations.specs.declared.Name.{Name}
use Rattle.enumerations.specs.declared.Triple.{Triple}
use Rattle.enumerations.specs.Records.{name_recs, triple_recs}

-- a name of the row k, whatever its tag
pub record Names (k : ℕ) (s : List ℕ) (c : Cursor) (r : Got Name) : Type 0 where
  pub reads : (t : ℕ) → Takes (message.ext_name t (highest k)) s c r.c (name_recs t r.v)

pub record Triples (s : List ℕ) (c : Cursor) (r : Got Triple) : Type 0 where
  pub reads : Takes (many 3 3 message.speed_type) s c r.c (triple_recs r.v)
