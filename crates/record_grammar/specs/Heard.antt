-- Whether a list of records is one that a reading gives.
use Rattle.std.specs.Prelude.{Bool, ◌&&◌, List, [], ◌∷◌, ℕ, eqb}
use Rattle.atn.specs.Reading.{Rec, rec}
use Rattle.record_views.specs.View.{whole, records_from, fetched}
use Rattle.record_grammar.specs.declared.Walk.{Walk}
use Rattle.record_grammar.specs.Rows.{stepped}
use Rattle.record_grammar.specs.Table.{table}

-- before the first record: row 4
unfoldable pub start : Walk
start = record { at = 4; back = 0; last = 0; element = 0; clearance = 0; place = 0; whole = 0; left = 0; before = 0; earlier = 0 }

unfoldable pub walked : List ℕ → Walk → List Rec → Walk
walked N s [] = s
walked N s (x ∷ R) = walked N (stepped N s (fetched x)) R

-- the end is heard as a record of zeros, and behind it is row 3
unfoldable pub heard : List ℕ → List Rec → Bool
heard N R = eqb (stepped N (walked N start R) (fetched (rec 0 0 0 0 0))).at 3

unfoldable pub formed : List ℕ → Bool
formed w = whole w && heard table (records_from 0 w)
