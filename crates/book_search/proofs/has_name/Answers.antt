use mathlib.Core.Path.{◌≡◌, refl, sym, ◌∙◌}
use mathlib.Core.Bool.{true, false}
use native.Mathlib.Omega.{arith}
use Rattle.book_entries.specs.Entries.{entry_at}
use Rattle.book_entries.specs.Book.{named}
use Rattle.book_entries.proofs.Places.{inside_of, next_of}
use Rattle.book_search.proofs.SearchLaws.{told, met, passed, nothing, at-end}
use Rattle.book_search.proofs.has_name.Goals as goal

pub loop-i-init : goal.loop-i-init
loop-i-init c = (omega arith, refl)

pub entry_at-requires : goal.entry_at-requires
entry_at-requires c = inside_of c.args.book.now c.loop-i.i (omega arith)

pub returns-then-is_named : goal.returns-then-is_named
returns-then-is_named c =
    let a = c.args in
    let i = c.loop-i.i in
    let fits = named a.name.text a.name.size in
    let e : fits (entry_at a.book.now i) ≡ true = told fits c.is_named.ensures c.entry_at.ensures c.if-is_named.true in
    sym (c.loop-i.invariant.1 ∙ met (next_of a.book.now i (omega arith)) fits e)

pub loop-i-preserved : goal.loop-i-preserved
loop-i-preserved c =
    let a = c.args in
    let i = c.loop-i.i in
    let fits = named a.name.text a.name.size in
    let e : fits (entry_at a.book.now i) ≡ false = told fits c.is_named.ensures c.entry_at.ensures c.if-is_named.false in
    (omega arith, c.loop-i.invariant.1 ∙ passed (next_of a.book.now i (omega arith)) fits e)

pub returns : goal.returns
returns c = let a = c.args in sym (c.loop-i.invariant.1 ∙ nothing (named a.name.text a.name.size) (at-end a.book.now c.loop-i.i (omega arith)))
