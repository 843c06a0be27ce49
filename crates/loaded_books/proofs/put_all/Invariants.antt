-- The entries of the lines so far are there.
use Rattle.book_text.specs.Cuts.{left}
use Rattle.loaded_books.proofs.Ready.{Putting}
use Rattle.loaded_books.proofs.put_all.Given as goal

abbrev pub invariant-loop-line : goal.invariant-loop-line
invariant-loop-line l = Putting l.saved l.initial.places l.places (left l.line-iterator)
