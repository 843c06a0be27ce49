use Rattle.counted_books.proofs.CountLaws.{emptied-short, emptied-long}
use Rattle.counted_books.proofs.empty_book.Goals as goal

pub returns-then-book-lt2 : goal.returns-then-book-lt2
returns-then-book-lt2 c = emptied-short _ c.empty.ensures c.if-book-lt2.true

pub returns : goal.returns
returns c = emptied-long _ c.empty.ensures c.if-book-lt2.false c.recount.ensures
