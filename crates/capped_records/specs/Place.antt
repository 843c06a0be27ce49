-- Records told into lent words, and their number, at most 2^64 - 1.
use Rattle.std.specs.Prelude.{◌≡◌, cond, List, [], ◌∷◌, ◌++◌, ℕ, suc, ◌+◌, ◌*◌, min, length, take, drop, leb}
use Rattle.atn.specs.Reading.{Rec}
use Rattle.atn.specs.Entries.{flat}
use Rattle.schema_tables.specs.Entry.{top}

-- k more than n
unfoldable pub counted : ℕ → ℕ → ℕ
counted n k = min (n + k) top

-- one record behind n others, where there is room for it
unfoldable pub place_one : List ℕ → ℕ → Rec → List ℕ
place_one w n r = cond (leb (n * 5 + 5) (length w)) (take (n * 5) w ++ (flat (r ∷ []) ++ drop (n * 5 + 5) w)) w

unfoldable pub place : List ℕ → ℕ → List Rec → List ℕ
place w n [] = w
place w n (r ∷ R) = place (place_one w n r) (suc n) R

-- the record r was told behind n others: then there are m, and the words are w' where they were w
pub record Put (w w' : List ℕ) (n m : ℕ) (r : Rec) : Type 0 where
  pub count : m ≡ counted n 1
  pub words : w' ≡ place_one w n r
