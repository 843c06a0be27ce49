-- The entries that are left meet e if all do.
use mathlib.Core.Path.{◌≡◌}
use mathlib.Core.List.{List}
use mathlib.Core.Option.{some}
use Rattle.book_entries.specs.declared.Entry.{Entry}
use Rattle.book_entries.specs.Book.{holds}
use Rattle.book_text.specs.Cuts.{collected, left}
use Rattle.loaded_books.specs.Loads.{meets}
use Rattle.loaded_books.proofs.LoadLaws.{Left}
use Rattle.loaded_books.proofs.meets_later.Given as goal

abbrev pub invariant-loop-line : goal.invariant-loop-line
invariant-loop-line l = (M : List Entry) → collected (left l.fn.later) ≡ some M → Left (holds (meets l.e)) (left l.line-iterator) M
