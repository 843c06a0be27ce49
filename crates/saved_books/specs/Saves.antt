-- Saving a book: the complete answer, and what the lent bytes hold afterwards.
use Rattle.std.specs.Prelude.{cond, List, ◌++◌, ℕ, leb, length, drop, Result, Ok, Err}
use Rattle.std.proofs.Math.Option.{none, some}
use Rattle.counted_books.specs.Counted.{held}
use Rattle.book_lines.specs.Lines.{saved}
use Rattle.saved_books.specs.declared.Refusal.{Refusal}
use Rattle.saved_books.specs.declared.Refusal.TheVariants.{NotABook, TooFewBytes}

-- the number of a refusal in docs/REFUSALS.md
abbrev pub number : Refusal → ℕ
number NotABook = 18
number (TooFewBytes n) = 9

-- the bytes needed, which only 9 has
abbrev pub need : Refusal → ℕ
need NotABook = 0
need (TooFewBytes n) = n

-- "9, too few bytes to save into", with the number needed
unfoldable pub settled : List ℕ → List ℕ → Result ℕ Refusal × List ℕ
settled text out = cond (leb (length text) (length out)) (Ok (length text), text ++ drop (length text) out) (Err (TooFewBytes (length text)), out)

unfoldable pub save : List ℕ → List ℕ → Result ℕ Refusal × List ℕ
save w out = elim (held w) [ none ↦ (Err NotABook, out) | some E ↦ settled (saved E) out ]
