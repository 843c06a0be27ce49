-- "Keep the number in the book itself, correct after every add, withdrawal, load and refusal": what is true of a slice that holds entries.
use Rattle.std.specs.Prelude.{◌≡◌, true, List, ℕ, ◌-◌, ◌≤◌, length, drop, Ok}
use Rattle.std.proofs.Math.Option.{some}
use Rattle.book_entries.specs.declared.Entry.{Entry}
use Rattle.book_entries.specs.Book.{orderly, listed}
use Rattle.counted_books.specs.Counted.{room, shown, free}

-- entries that so many places can hold: each name and each number once, by rising number, and no more than there are places
pub record Fits (places : ℕ) (E : List Entry) : Type 0 where
  pub orderly : orderly E ≡ true
  pub few : length E ≤ places

-- the slice w holds the entries E
pub record Holding (w : List ℕ) (E : List Entry) : Type 0 where
  -- it has the two words of the number, and E in the places behind them
  pub long : 2 ≤ length w
  pub places : listed (drop 2 w) ≡ some E
  pub fits : Fits (room w) E
  -- no other words of this length hold E
  pub is : w ≡ shown (length w) E
  -- "how many names the book still takes"
  pub free : free w ≡ Ok (room w - length E)
