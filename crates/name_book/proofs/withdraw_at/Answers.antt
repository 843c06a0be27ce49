-- Each way through the code is one of the definition.
use Rattle.book_entries.specs.Book.{numbered, entries}
use Rattle.book_search.proofs.SearchLaws.{Placed, placed, absent}
use Rattle.name_book.proofs.CallLaws.{withdraw-absent, withdraw_gone}
use Rattle.name_book.proofs.withdraw_at.Goals.{In-Some}
use Rattle.name_book.proofs.withdraw_at.Goals as goal

at : (c : In-Some) → Placed (numbered c.args.number) (entries c.args.places.now) c.in-Some.p
at c = placed (numbered c.args.number) (entries c.args.places.now) c.in-Some.ensures

pub returns-in_default : goal.returns-in_default
returns-in_default c =
    let a = c.args in
    withdraw-absent a.places.now a.number c.requires (absent (numbered a.number) (entries a.places.now) c.in_default.ensures)

pub remove-requires : goal.remove-requires
remove-requires c = (at (goal.at.remove-requires c).In-Some).within

pub returns : goal.returns
returns c = withdraw_gone c.args.places.now c.args.number c.requires (at (goal.at.returns c).In-Some) c.remove.ensures
