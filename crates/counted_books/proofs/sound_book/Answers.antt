-- Each test of the code is one of the definition.
use Rattle.counted_books.proofs.CountLaws.{short-held, wrong_high, wrong_low, right}
use Rattle.counted_books.proofs.sound_book.Goals as goal

pub returns-then-book-lt2 : goal.returns-then-book-lt2
returns-then-book-lt2 c = short-held c.args.book.now c.if-book-lt2.true

pub returns-then-from-k : goal.returns-then-from-k
returns-then-from-k c = wrong_high c.args.book.now c.if-book-lt2.false c.left_in-k.ensures c.from.ensures c.if-from-k.true

pub returns-then-from-k-2 : goal.returns-then-from-k-2
returns-then-from-k-2 c = wrong_low c.args.book.now c.if-book-lt2.false c.left_in-k.ensures c.from.ensures c.if-from-k.false c.from-2.ensures c.if-from-k-2.true

pub returns : goal.returns
returns c = right c.args.book.now c.if-book-lt2.false c.left_in-k.ensures c.from.ensures c.if-from-k.false c.sound.result c.from-2.ensures c.if-from-k-2.false c.sound.ensures
