-- "Keep the number in the book itself": a book is the number of its free places, in two words, and the places behind them.
use Rattle.std.specs.Prelude.{cond, ◌&&◌, List, [], ◌∷◌, ℕ, ◌+◌, ◌*◌, ◌/◌, ◌%◌, ◌-◌, leb, ltb, eqb, length, drop, replicate, Result, Ok, Err}
use Rattle.std.proofs.Math.Option.{Option, none}
use Rattle.book_entries.specs.declared.Entry.{Entry}
use Rattle.book_entries.specs.Book.{laid, entries, listed}
use Rattle.counted_books.specs.declared.Refusal.{Refusal}
use Rattle.counted_books.specs.declared.Refusal.TheVariants.{NotABook}

-- the number of a refusal in docs/REFUSALS.md
abbrev pub number : Refusal → ℕ
number NotABook = 18

-- a number in two words of 32 bits, the high one first
abbrev pub high : ℕ → ℕ
high k = k / 4294967296

abbrev pub low : ℕ → ℕ
low k = k % 4294967296

-- how many names there is room for
abbrev pub room : List ℕ → ℕ
room w = (length w - 2) / 4

-- how many more the places take
abbrev pub left : List ℕ → ℕ
left w = length w / 4 - length (entries w)

-- n words that hold the entries
unfoldable pub shown : ℕ → List Entry → List ℕ
shown n E = high ((n - 2) / 4 - length E) ∷ low ((n - 2) / 4 - length E) ∷ laid (n - 2) E

-- "18, a slice these calls cannot leave, .. also for a wrong number or a slice too short for one": none
unfoldable pub held : List ℕ → Option (List Entry)
held [] = none
held (h ∷ []) = none
held (h ∷ l ∷ w) = cond (eqb h (high (left w)) && eqb l (low (left w))) (listed w) none

-- the number in front as the places have it
unfoldable pub recounted : List ℕ → List ℕ
recounted w = high (left (drop 2 w)) ∷ low (left (drop 2 w)) ∷ drop 2 w

-- "One call empties any slice"
unfoldable pub emptied : ℕ → List ℕ
unfolding shown
emptied n = cond (ltb n 2) (replicate n 0) (shown n [])

-- "how many names the book still takes": the number that is kept, without a look at the places; "18 .. also for a wrong number": here for one above what there is room for
unfoldable pub free : List ℕ → Result ℕ Refusal
free [] = Err NotABook
free (h ∷ []) = Err NotABook
free (h ∷ l ∷ w) = cond (leb (h * 4294967296 + l) (room (h ∷ l ∷ w))) (Ok (h * 4294967296 + l)) (Err NotABook)
