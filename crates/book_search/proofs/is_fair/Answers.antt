-- Each test of the code is one of the definition.
use mathlib.Core.Path.{sym, ◌∙◌}
use Prim.Native.Nat.{◌+◌}
use native.Mathlib.Omega.{arith}
use Rattle.book_entries.specs.Entries.{good, entry_at}
use Rattle.book_entries.proofs.Places.{from, inside_of}
use Rattle.book_search.proofs.SearchLaws.{told, bad, falling, fresh}
use Rattle.book_search.proofs.is_fair.Goals as goal

pub entry_at-e-requires : goal.entry_at-e-requires
entry_at-e-requires c = inside_of c.args.book.now c.args.i (omega arith)

pub returns-then-not-is_good : goal.returns-then-not-is_good
returns-then-not-is_good c =
    let a = c.args in
    bad (entry_at a.book.now a.i) (from a.book.now (a.i + 1)) (told good c.is_good.ensures c.entry_at-e.ensures c.if-not-is_good.true)

pub returns-then-not-rises : goal.returns-then-not-rises
returns-then-not-rises c =
    let a = c.args in
    falling (entry_at a.book.now a.i) (from a.book.now (a.i + 1)) (told good c.is_good.ensures c.entry_at-e.ensures c.if-not-is_good.false) (sym c.rises.ensures ∙ c.if-not-rises.true)

pub returns : goal.returns
returns c =
    let a = c.args in
    fresh (entry_at a.book.now a.i) (from a.book.now (a.i + 1)) (told good c.is_good.ensures c.entry_at-e.ensures c.if-not-is_good.false) (sym c.rises.ensures ∙ c.if-not-rises.false) (rw (c.name.ensures.0, c.name.ensures.1, c.entry_at-e.ensures) at c.has_name.ensures)
