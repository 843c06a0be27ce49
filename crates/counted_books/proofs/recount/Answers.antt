use Rattle.counted_books.proofs.CountLaws.{counted_anew}
use Rattle.counted_books.proofs.recount.Goals as goal

pub returns : goal.returns
returns c = counted_anew c.args.book.now c.requires c.left_in-k.ensures
