-- Each way through the code is one of the definition.
use mathlib.Core.Path.{◌∙◌}
use Rattle.book_entries.specs.Book.{named, entries}
use Rattle.book_entries.proofs.Places.{inside_of}
use Rattle.book_search.proofs.SearchLaws.{Placed, placed, absent}
use Rattle.name_book.proofs.CallLaws.{first-of, find_nowhere, find_at}
use Rattle.name_book.proofs.look_at.Goals.{In_ok-p}
use Rattle.name_book.proofs.look_at.Goals as goal

at : (c : In_ok-p) → Placed (named c.args.name.text c.args.name.size) (entries c.args.places.now) c.in_ok-p.p
at c = placed (named c.args.name.text c.args.name.size) (entries c.args.places.now) c.in_ok-p.ensures

pub returns-in_err-p : goal.returns-in_err-p
returns-in_err-p c =
    let a = c.args in
    c.from_residual.ensures ∙ find_nowhere a.places.now a.name.text a.name.size (absent (named a.name.text a.name.size) (entries a.places.now) c.in_err-p.ensures)

pub entry_at-e-requires : goal.entry_at-e-requires
entry_at-e-requires c = inside_of c.args.places.now c.in_ok-p.p (at (goal.at.entry_at-e-requires c).In_ok-p).within

pub returns : goal.returns
returns c =
    let p = at (goal.at.returns c).In_ok-p in
    rw c.bytes.ensures (find_at c.args.places.now c.args.name.text c.args.name.size p.there (first-of c.args.places.now p c.entry_at-e.ensures))
