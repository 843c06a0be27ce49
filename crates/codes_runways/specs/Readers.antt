-- What the readers of codes and runways read: the formats of document 01, and the records of their values.
use Rattle.std.specs.Prelude.{List, ℕ}
use Rattle.atn.specs.Messages as message
use Rattle.cursor.specs.declared.place.Cursor.{Cursor}
use Rattle.cursor.specs.declared.place.Got.{Got}
use Rattle.cursor.specs.Place.{Takes}
use Rattle.codes_runways.specs.declared.Code.{Code}
use Rattle.codes_runways.specs.declared.Runway.{Runway}
use Rattle.codes_runways.specs.Records.{code_recs, runway_recs}

pub record Codes (s : List ℕ) (c : Cursor) (r : Got Code) : Type 0 where
  pub reads : Takes message.code s c r.c (code_recs r.v)

-- by the tags of the direction and the side
pub record Runways (s : List ℕ) (c : Cursor) (r : Got Runway) : Type 0 where
  pub reads : (t u : ℕ) → Takes (message.runway t u) s c r.c (runway_recs t u r.v)
