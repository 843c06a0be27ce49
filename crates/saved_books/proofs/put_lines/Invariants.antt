-- The lines that are left, put behind those that are there, are all of them.
use mathlib.Core.Path.{◌≡◌}
use mathlib.Core.Bool.{true}
use Prim.Native.Nat.{◌+◌, ◌≤◌}
use lib.ListN.{length}
use Rattle.book_entries.specs.Book.{entries, orderly}
use Rattle.book_entries.specs.Left.{left}
use Rattle.book_lines.specs.Lines.{saved, put}
use Rattle.saved_books.proofs.put_lines.Given as goal

abbrev pub invariant-loop-e : goal.invariant-loop-e
invariant-loop-e l = (length l.out ≡ length l.initial.out) × (l.at + length (saved (left l.e-iterator)) ≤ length l.out) × (orderly (left l.e-iterator) ≡ true) × (put 0 (saved (entries l.places)) l.initial.out ≡ put l.at (saved (left l.e-iterator)) l.out)
