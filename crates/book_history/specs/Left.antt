-- "18, a slice these calls cannot leave"
use Rattle.std.specs.Prelude.{◌≡◌, List, [], ◌∷◌, ℕ, ◌<◌, length}
use Rattle.counted_books.specs.Counted.{emptied}
use Rattle.book_history.specs.History.{Call, run}

-- "a lent slice of 32-bit numbers"
abbrev pub Words : List ℕ → Type 0
Words [] = Unit {0}
Words (x ∷ w) = (x < 4294967296) × Words w

-- calls that leave these words of an emptied slice
pub record Left (w : List ℕ) : Type 0 where
  pub calls : List Call
  pub is : run (emptied (length w)) calls ≡ w
