use borrow.Author.Rules.{rules}
use Rattle.records.proofs.Telling.{told_none, told-within}
use Rattle.acse.proofs.telling.tell.Goals as goal

pub returns-in-Untold : goal.returns-in-Untold
returns-in-Untold c = rw c.in-Untold.is (told-within 1 (search rules) told_none)

pub store-requires : goal.store-requires
store-requires c = (c.requires.0, rw c.in-Told.is at c.requires.1)

pub returns-in-Told : goal.returns-in-Told
returns-in-Told c = rw c.in-Told.is c.store.ensures
