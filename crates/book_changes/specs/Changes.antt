-- One entry more, and one entry less.
use Rattle.std.specs.Prelude.{cond, List, [], ◌∷◌, ℕ, ltb}
use Rattle.book_entries.specs.declared.Entry.{Entry}
use Rattle.book_entries.specs.Book.{numbered}

-- of two entries the one with the lower number, and the other
abbrev pub lower : Entry → Entry → Entry
lower e f = cond (ltb e.number f.number) e f

abbrev pub higher : Entry → Entry → Entry
higher e f = cond (ltb e.number f.number) f e

-- "saved by rising number": the lower one stays, the other goes on
unfoldable pub insert : Entry → List Entry → List Entry
insert e [] = e ∷ []
insert e (f ∷ E) = lower e f ∷ insert (higher e f) E

-- the entry with number k goes
unfoldable pub without : ℕ → List Entry → List Entry
without k [] = []
without k (e ∷ E) = cond (numbered k e) E (e ∷ without k E)

-- an unused place
abbrev pub vacant : Entry
vacant = record { high = 0; low = 0; number = 0; shape = 0 }
