-- Loading a book: the complete answer, and what the lent words hold afterwards.
use Rattle.std.specs.Prelude.{◌≡◌, Bool, true, cond, not, ◌&&◌, ◌||◌, List, [], ◌∷◌, ℕ, ◌/◌, ◌≤◌, leb, length, Result, Ok, Err, MatchOption}
use Rattle.std.specs.Prelude as counted
use Rattle.std.proofs.Math.Option.{Option, none, some}
use Rattle.book_entries.specs.declared.Entry.{Entry}
use Rattle.book_entries.specs.Entries.{text, size}
use Rattle.book_entries.specs.Book.{holds, named, numbered}
use Rattle.book_changes.specs.Changes.{insert}
use Rattle.book_lines.specs.Lines.{lines}
use Rattle.counted_books.specs.Counted.{room}
use Rattle.name_book.specs.Calls.{opened}
use Rattle.loaded_books.specs.declared.Refusal.{Refusal}
use Rattle.loaded_books.specs.declared.Refusal.TheVariants.{NotABook, NotASavedBook, BookFull}

-- the number of a refusal in docs/REFUSALS.md
abbrev pub number : Refusal → ℕ
number NotABook = 18
number NotASavedBook = 23
number BookFull = 10

-- "a name or number twice"
abbrev pub meets : Entry → Entry → Bool
meets e f = numbered e.number f || named (text e) (size e) f

unfoldable pub distinct : List Entry → Bool
distinct [] = true
distinct (e ∷ E) = not (holds (meets e) E) && distinct E

-- the entries of a book and further ones, each at its place
unfoldable pub gathered : List Entry → List Entry → List Entry
gathered A [] = A
gathered A (e ∷ E) = gathered (insert e A) E

-- "23, a saved line not of this form, or a name or number twice"; "10, .. if .. a good saved book has more names than room"; "loaded in any order in place of what was held"
unfoldable pub replaced : ℕ → Option (List Entry) → List Entry → Result ℕ Refusal × List Entry
replaced places none E = (Err NotASavedBook, E)
replaced places (some L) E = cond (distinct L) (cond (leb (length L) places) (Ok (length L), gathered [] L) (Err BookFull, E)) (Err NotASavedBook, E)

unfoldable pub load : List ℕ → List ℕ → Result ℕ Refusal × List ℕ
load w t = opened w (Err NotABook) (replaced (room w) (lines [] t))

-- how many lines there are, if all are good
abbrev pub Counts : List ℕ → counted.Option ℕ → Type 0
Counts t r = MatchOption r (lines [] t ≡ none) (λ n. (L : List Entry) × (lines [] t ≡ some L) × (n ≡ length L))

-- a good saved book, and places for it
pub record Fit (t w : List ℕ) : Type 0 where
  pub entries : List Entry
  pub is : lines [] t ≡ some entries
  pub apart : distinct entries ≡ true
  pub few : length entries ≤ length w / 4
