-- The need so far, and that of the lines that are left.
use mathlib.Core.Path.{◌≡◌}
use mathlib.Core.Bool.{true}
use Prim.Native.Nat.{◌+◌, ◌*◌, ◌≤◌}
use lib.ListN.{length}
use Rattle.book_entries.specs.Book.{entries, orderly}
use Rattle.book_entries.specs.Left.{left}
use Rattle.book_lines.specs.Lines.{saved}
use Rattle.saved_books.proofs.bytes_needed.Given as goal

abbrev pub invariant-loop-e : goal.invariant-loop-e
invariant-loop-e l = (l.need + length (left l.e-iterator) * 30 ≤ length (entries l.places) * 30) × (orderly (left l.e-iterator) ≡ true) × (length (saved (entries l.places)) ≡ l.need + length (saved (left l.e-iterator)))
