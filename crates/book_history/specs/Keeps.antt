-- "After any sequence of calls, each name held appears once, as the history says".
use Rattle.std.specs.Prelude.{◌≡◌, List, ◌∷◌, ℕ, ◌/◌, ◌-◌, length}
use Rattle.std.proofs.Math.Option.{some}
use Rattle.book_entries.specs.declared.Entry.{Entry}
use Rattle.counted_books.specs.Counted.{held}
use Rattle.counted_books.specs.Holding.{Fits}

-- the words w, n of them, hold E and nothing else, each name and number once, and no more than there are places
pub record Keeps (n : ℕ) (w : List ℕ) (E : List Entry) : Type 0 where
  pub long : length w ≡ n
  pub holds : held w ≡ some E
  pub fits : Fits ((n - 2) / 4) E

-- e is one of the entries
pub data In (e : Entry) : List Entry → Type 0 where
  here : {E : List Entry} → In e (e ∷ E)
  there : {f : Entry} {E : List Entry} → In e E → In e (f ∷ E)
