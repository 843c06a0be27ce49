-- The entries that are left are distinct if all are.
use mathlib.Core.Path.{◌≡◌}
use mathlib.Core.List.{List, []}
use mathlib.Core.Option.{some}
use Rattle.book_entries.specs.declared.Entry.{Entry}
use Rattle.book_lines.specs.Lines.{lines}
use Rattle.book_text.specs.Cuts.{left}
use Rattle.loaded_books.specs.Loads.{distinct}
use Rattle.loaded_books.proofs.LoadLaws.{Left}
use Rattle.loaded_books.proofs.twice.Given as goal

abbrev pub invariant-loop-line : goal.invariant-loop-line
invariant-loop-line l =
    (goal.iterator-loop-line).can_next l.later × (goal.iterator-loop-line).is_finite l.later × ((M : List Entry) → lines [] l.saved ≡ some M → Left distinct (left l.later) M)
