-- "yes exactly if the list is the clean reading of that frame".
use Rattle.std.specs.Prelude.{◌≡◌, false, List, ℕ}
use Rattle.atn.specs.Reading.{Rec}
use Rattle.atn.specs.Entries.{Reply, accept, flat}

-- the reading replied r, which is clean: whole, and with no mark; and the list is the words of its records
pub record Clean (r : Reply) (l : List ℕ) : Type 0 where
  pub reach : ℕ
  pub recs : List Rec
  pub is : r ≡ accept false reach 0 recs
  pub list : l ≡ flat recs
