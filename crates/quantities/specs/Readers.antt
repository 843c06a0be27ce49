-- What the readers of quantities read: the formats of document 01, and the records of their values.
use Rattle.std.specs.Prelude.{List, ℕ}
use Rattle.x691.specs.Encoding.{width}
use Rattle.x691.specs.Encoding as encoding
use Rattle.atn.specs.Format.{choice, none_left, alternatives_of}
use Rattle.atn.specs.Messages as message
use Rattle.atn.specs.Tags as tag
use Rattle.cursor.specs.declared.place.Cursor.{Cursor}
use Rattle.cursor.specs.declared.place.Got.{Got}
use Rattle.cursor.specs.Place.{Takes}
use Rattle.ranged_numbers.specs.Numbers.{rows_then}
use Rattle.quantities.specs.declared.Quantity.{Quantity}
use Rattle.quantities.specs.Records.{quantity_recs}

-- the bits of an index into n kinds whose rows begin at k
unfoldable pub index_width : ℕ → ℕ → ℕ
index_width k n = width (encoding.highest (alternatives_of (rows_then 0 k n none_left)))

pub record Quantities (k n : ℕ) (s : List ℕ) (c : Cursor) (r : Got Quantity) : Type 0 where
  pub reads : (t u : ℕ) → Takes (choice t (rows_then u k n none_left)) s c r.c (quantity_recs t u r.v)

pub record Speeds (s : List ℕ) (c : Cursor) (r : Got Quantity) : Type 0 where
  pub reads : Takes message.speed s c r.c (quantity_recs tag.speed tag.speed_number r.v)

pub record Levels (s : List ℕ) (c : Cursor) (r : Got Quantity) : Type 0 where
  pub reads : Takes message.level_type s c r.c (quantity_recs tag.level tag.level_number r.v)

pub record Degrees (s : List ℕ) (c : Cursor) (r : Got Quantity) : Type 0 where
  pub reads : Takes message.degrees s c r.c (quantity_recs tag.degrees tag.degrees_number r.v)
