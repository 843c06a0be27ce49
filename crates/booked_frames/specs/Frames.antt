-- "Adding a frame answers new, repeated (with the earlier frame's number) or else without a name."
use Rattle.std.specs.Prelude.{cond, List, ℕ, eqb, length, Result}
use Rattle.book_entries.specs.declared.Entry.{Entry}
use Rattle.forward_names.specs.declared.Named.{Named}
use Rattle.forward_names.specs.Names.{forward_name}
use Rattle.named_entries.specs.Made.{entry_of}
use Rattle.name_book.specs.declared.Added.{Added}
use Rattle.name_book.specs.declared.Refusal.{Refusal}
use Rattle.name_book.specs.Calls.{add}

-- an entry that is not good: the book calls it without a name, behind its refusals 18 and 12
abbrev pub nameless : ℕ → Entry
nameless k = record { high = 0; low = 0; number = k; shape = 0 }

-- the entry of the frame with number k and so many bytes
unfoldable pub offered : Named → ℕ → ℕ → Entry
offered n k b = cond (eqb n.number 0) (entry_of n k b) (nameless k)

-- the book's words, the frame, its number, the tables
unfoldable pub add_frame : List ℕ → List ℕ → ℕ → List ℕ → List ℕ → Result Added Refusal × List ℕ
add_frame w s k down up = add w (offered (forward_name s down up) k (length s))
