-- So many lines have been read.
use Rattle.book_text.specs.Cuts.{left}
use Rattle.loaded_books.proofs.LoadLaws.{Counting}
use Rattle.loaded_books.proofs.count_lines.Given as goal

abbrev pub invariant-loop-line : goal.invariant-loop-line
invariant-loop-line l = Counting l.saved l.count (left l.line-iterator)
