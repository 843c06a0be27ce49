-- A history of calls: what it does to the words, and what it says is held.
use Rattle.std.specs.Prelude.{List, [], ◌∷◌, ℕ, length}
use Rattle.book_entries.specs.declared.Entry.{Entry}
use Rattle.counted_books.specs.Counted.{emptied}
use Rattle.name_book.specs.Calls.{offer, add, take_out, withdraw}
use Rattle.book_lines.specs.Lines.{lines}
use Rattle.loaded_books.specs.Loads.{replaced, load}

-- the calls that change a book; a look-up, a saving and a look at the number leave it
pub data Call : Type 0 where
  emptying : Call
  adding : Entry → Call
  withdrawing : ℕ → Call
  loading : List ℕ → Call

-- the words after a call
unfoldable pub after : List ℕ → Call → List ℕ
after w emptying = emptied (length w)
after w (adding e) = (add w e).1
after w (withdrawing k) = (withdraw w k).1
after w (loading t) = (load w t).1

-- what is held after a call, of so many places
unfoldable pub says : ℕ → List Entry → Call → List Entry
says places E emptying = []
says places E (adding e) = (offer places e E).1
says places E (withdrawing k) = (take_out k E).1
says places E (loading t) = (replaced places (lines [] t) E).1

-- and after any sequence of calls
unfoldable pub run : List ℕ → List Call → List ℕ
unfolding after
run w [] = w
run w (c ∷ cs) = run (after w c) cs

unfoldable pub history : ℕ → List Entry → List Call → List Entry
unfolding says
history places E [] = E
history places E (c ∷ cs) = history places (says places E c) cs
