-- No place from the first to i has the name.
use mathlib.Core.Path.{◌≡◌}
use Prim.Native.Nat.{◌≤◌}
use Rattle.book_entries.specs.Book.{holds, named}
use Rattle.book_entries.proofs.Places.{from}
use Rattle.book_search.proofs.has_name.Given as goal

abbrev pub invariant-loop-i : goal.invariant-loop-i
invariant-loop-i l = (l.i ≤ l.n) × (holds (named l.name.text l.name.size) (from l.book l.first) ≡ holds (named l.name.text l.name.size) (from l.book l.i))
