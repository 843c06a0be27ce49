use Rattle.counted_books.proofs.CountLaws.{short-free, kept_free, wrong_free}
use Rattle.counted_books.proofs.free_places.Goals as goal

pub returns-then-book-lt2 : goal.returns-then-book-lt2
returns-then-book-lt2 c = short-free c.args.book.now c.if-book-lt2.true

pub returns-then-count-book : goal.returns-then-count-book
returns-then-count-book c = kept_free c.args.book.now c.if-book-lt2.false c.joined-count.ensures c.if-count-book.true

pub returns : goal.returns
returns c = wrong_free c.args.book.now c.if-book-lt2.false c.joined-count.ensures c.if-count-book.false
