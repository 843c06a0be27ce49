use Rattle.book_changes.proofs.ChangeLaws.{moved_up}
use Rattle.book_changes.proofs.remove.Goals as goal

pub returns : goal.returns
returns c = moved_up c.args.book.now c.args.p c.requires c.count-n.ensures.is c.copy_within.ensures.after c.put_entry.ensures
