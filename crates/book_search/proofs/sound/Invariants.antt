-- The entries are orderly if those from i on are.
use mathlib.Core.Path.{◌≡◌}
use Prim.Native.Nat.{◌≤◌}
use lib.ListN.{length}
use Rattle.book_entries.specs.Book.{orderly, entries}
use Rattle.book_entries.proofs.Places.{from}
use Rattle.book_search.proofs.sound.Given as goal

abbrev pub invariant-loop-i : goal.invariant-loop-i
invariant-loop-i l = (l.i ≤ l.n) × (l.n ≡ length (entries l.book)) × (orderly (entries l.book) ≡ orderly (from l.book l.i))
