-- A date and time, and its records.
use Rattle.std.specs.Prelude.{ℕ, ◌+◌, List, [], ◌∷◌}
use Rattle.atn.specs.Messages.{date_time_group}
use Rattle.atn.specs.Reading.{Rec, rec, word}
use Rattle.atn.specs.Tags as tag
use Rattle.cursor.specs.declared.place.Cursor.{Cursor}
use Rattle.cursor.specs.declared.place.Got.{Got}
use Rattle.cursor.specs.Place.{Takes}
use Rattle.field_ranges.specs.Rows as rows
use Rattle.field_ranges.specs.Ranges.{row_at, width_of}
use Rattle.date_times.specs.declared.DateTime.{DateTime}

-- the bits of a number of the row k
abbrev pub bits : ℕ → ℕ
bits k = width_of (row_at k)

-- each number stands behind the bits of those before; a place is a word
abbrev pub date_time_recs : DateTime → ℕ → List Rec
date_time_recs v n =
    rec tag.year n v.year 0 v.at ∷
    rec tag.month n v.month 0 (word (v.at + bits rows.year)) ∷
    rec tag.day n v.day 0 (word (v.at + (bits rows.year + bits rows.month))) ∷
    rec tag.hours n v.hours 0 (word (v.at + (bits rows.year + bits rows.month + bits rows.day))) ∷
    rec tag.minutes n v.minutes 0 (word (v.at + (bits rows.year + bits rows.month + bits rows.day + bits rows.hours))) ∷
    rec tag.seconds n v.seconds 0 (word (v.at + (bits rows.year + bits rows.month + bits rows.day + bits rows.hours + bits rows.minutes))) ∷
    []

pub record DateTimes (s : List ℕ) (c : Cursor) (r : Got DateTime) : Type 0 where
  pub takes : Takes date_time_group s c r.c (λ n. date_time_recs r.v n)
