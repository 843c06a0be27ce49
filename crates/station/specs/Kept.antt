-- "No call of one station alters a binding of the other".
use Rattle.std.specs.Prelude.{◌≡◌, ℕ, Bool, true, List}
use Rattle.book_entries.specs.declared.Entry.{Entry}
use Rattle.book_entries.specs.Book.{holds}
use Rattle.book_history.specs.Keeps.{Keeps}

-- the words v, n of them, are a sound book in which everything is held that E held: whatever fitted an entry of E fits one that is held now, so each name, with its number and its length
pub record Kept (n : ℕ) (E : List Entry) (v : List ℕ) : Type 0 where
  pub now : List Entry
  pub keeps : Keeps n v now
  pub stays : (fits : Entry → Bool) → holds fits E ≡ true → holds fits now ≡ true
