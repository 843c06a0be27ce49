-- Each element has the argument that a lent table names for its index, or none where the argument could not be read: then no element and no clearance follows.
use Rattle.std.specs.Prelude.{Bool, true, cond, ◌&&◌, ◌||◌, List, [], ◌∷◌, ℕ, leb, eqb, get_or}
use Rattle.atn.specs.Reading.{Rec}
use Rattle.atn.specs.Tags as tags
use Rattle.record_views.specs.View.{fetched}
use Rattle.element_kinds.specs.Kinds.{kind_of}
use Rattle.element_kinds.specs.Agreed.{is_last}

-- the kind by the byte of a table: a byte above 16 has no argument that can be read
unfoldable pub byte_kind : ℕ → ℕ
byte_kind n = cond (leb n 16) n 0

-- and by the index
unfoldable pub table_kind : List ℕ → ℕ → ℕ
table_kind T i = byte_kind (get_or T i 0)

-- there is neither an element nor a clearance
unfoldable pub ended : List Rec → Bool
ended [] = true
ended (x ∷ R) = is_last (fetched x).tag && ended R

-- an argument is of kind k; or there is none, and the elements have ended
unfoldable pub fits : ℕ → ℕ → Bool → Bool
fits k kind end = eqb kind k || (eqb kind 0 && end)

-- a record, and those behind it, where K is the kind by the index
unfoldable pub keeps_one : (ℕ → ℕ) → Rec → List Rec → Bool
keeps_one K x R = cond (eqb (fetched x).tag tags.element_index) (fits (K (fetched x).value) (kind_of R) (ended R)) true

unfoldable pub keeps : (ℕ → ℕ) → List Rec → Bool
keeps K [] = true
keeps K (x ∷ R) = keeps_one K x R && keeps K R
