-- Each way through the code is one of the definition.
use native.Mathlib.Omega.{arith}
use Rattle.book_entries.specs.Book.{entries}
use Rattle.book_lines.specs.Lines.{saved}
use Rattle.saved_books.proofs.SaveLaws.{save-short, save_wrote}
use Rattle.saved_books.proofs.save_at.Goals as goal

pub returns-then-out-need : goal.returns-then-out-need
returns-then-out-need c = let a = c.args in save-short (saved (entries a.places.now)) a.out.now c.bytes_needed-need.ensures c.if-out-need.true

pub put_lines-requires : goal.put_lines-requires
put_lines-requires c = (c.requires, omega (arith, c.bytes_needed-need.ensures, c.if-out-need.false))

pub returns : goal.returns
returns c = let a = c.args in save_wrote (saved (entries a.places.now)) a.out.now c.bytes_needed-need.ensures c.if-out-need.false c.put_lines.ensures
