-- The lower entry of each turn is in its place, and the other is carried on.
use Rattle.book_entries.specs.Book.{picture, entries}
use Rattle.book_changes.specs.Changes.{insert}
use Rattle.book_changes.proofs.ChangeLaws.{Inserting}
use Rattle.book_changes.proofs.insert.Given as goal

abbrev pub invariant-loop-i : goal.invariant-loop-i
invariant-loop-i l = Inserting l.initial.book (picture (insert l.initial.carried (entries l.initial.book))) l.book l.carried l.i
