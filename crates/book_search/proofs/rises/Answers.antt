-- The entry behind is the first of those from the next place on.
use mathlib.Core.Path.{sym}
use Prim.Native.Nat.{◌+◌}
use native.Mathlib.Omega.{arith}
use Rattle.book_entries.specs.Entries.{entry_at}
use Rattle.book_entries.proofs.Places.{inside_of}
use Rattle.book_search.proofs.SearchLaws.{none-behind, one-behind}
use Rattle.book_search.proofs.rises.Goals as goal

pub returns-then-n-i : goal.returns-then-n-i
returns-then-n-i c = let a = c.args in sym (none-behind (entry_at a.book.now a.i) a.book.now (a.i + 1) (omega arith))

pub entry_at-requires : goal.entry_at-requires
entry_at-requires c = let a = c.args in inside_of a.book.now a.i (omega arith)

pub entry_at-requires-2 : goal.entry_at-requires-2
entry_at-requires-2 c = let a = c.args in inside_of a.book.now (a.i + 1) (omega arith)

pub returns : goal.returns
returns c =
    let a = c.args in
    rw (c.entry_at-2.ensures, c.entry_at.ensures) (sym (one-behind (entry_at a.book.now a.i) a.book.now (a.i + 1) (omega arith)))
