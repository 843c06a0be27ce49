-- The header of a forward message: its format, its records, and what its reader reads.
use Rattle.std.specs.Prelude.{List, [], ◌∷◌, ◌++◌, ℕ, ◌<◌}
use Rattle.atn.specs.Format.{Fmt, span, seq, end, ◌⨾◌}
use Rattle.atn.specs.Messages.{date_time_group, ia5}
use Rattle.atn.specs.Reading.{Rec, rec}
use Rattle.atn.specs.Tags as tag
use Rattle.cursor.specs.declared.place.Cursor.{Cursor}
use Rattle.cursor.specs.declared.place.Got.{Got}
use Rattle.cursor.specs.Place.{Takes}
use Rattle.character_strings.specs.Texts.{text_recs, InFrame}
use Rattle.date_times.specs.Times.{date_time_recs}
use Rattle.forward_headers.specs.declared.Header.{Header}

abbrev pub header : Fmt
header = seq (date_time_group ⨾ ia5 tag.aircraft_id 2 8 ⨾ span tag.aircraft_address 1 24 24 ⨾ end)

abbrev pub header_recs : List ℕ → Header → ℕ → List Rec
header_recs s x n = date_time_recs x.time n ++ (text_recs tag.aircraft_id n s x.name ++ (rec tag.aircraft_address n x.address 24 x.address ∷ []))

pub record Headers (s : List ℕ) (c : Cursor) (r : Got Header) : Type 0 where
  pub takes : Takes header s c r.c (λ n. header_recs s r.v n)
  -- whatever was read
  pub few : r.v.name.len < 512
  pub held : InFrame 7 s r.v.name
