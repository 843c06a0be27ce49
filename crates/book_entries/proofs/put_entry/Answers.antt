-- Four stores in a row.
use native.Mathlib.Numerals.{add-one, add-two, add-three}
use native.Mathlib.Omega.{arith}
use lib.ListN.{length-set}
use lib.Seq.{sets-eq}
use Rattle.book_entries.specs.Entries.{words}
use Rattle.book_entries.proofs.put_entry.Goals as goal

pub returns : goal.returns
returns c = rw (add-one, add-two, add-three) (sets-eq (words c.args.e) c.args.book.now _ (omega arith))

pub bounds-book-at-2 : goal.bounds-book-at-2
bounds-book-at-2 c = simp length-set (omega arith)

pub bounds-book-at-3 : goal.bounds-book-at-3
bounds-book-at-3 c = simp length-set (omega arith)
