-- Lent words as a list of records: how many there are, and the one that stands at a place.
use Rattle.std.specs.Prelude.{Bool, List, ℕ, ◌%◌, eqb, length, drop, get_or}
use Rattle.atn.specs.Reading.{Rec, rec}
use Rattle.record_lists.specs.Message.{records_of}
use Rattle.records.specs.Space.{size}
use Rattle.record_views.specs.declared.Record.{Record}

unfoldable pub count : List ℕ → ℕ
count w = length (records_of w)

-- no words are left over behind the records
unfoldable pub whole : List ℕ → Bool
whole w = eqb (length w % size) 0

-- record i; zeros where there is none
unfoldable pub record_at : List ℕ → ℕ → Rec
record_at w i = get_or (records_of w) i (rec 0 0 0 0 0)

-- the records from i on
unfoldable pub records_from : ℕ → List ℕ → List Rec
records_from i w = drop i (records_of w)

-- a record as the code has it: where its field began is left out
abbrev pub fetched : Rec → Record
fetched (rec t m v s q) = record { tag = t; element = m; value = v; second = s }
