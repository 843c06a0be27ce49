use borrow.Author.Tests.{le-leb, lt-leb}
use lib.ListN.{length}
use Rattle.reader.proofs.start.Goals as goal

pub returns-then-s-le-LONGEST_FRAME : goal.returns-then-s-le-LONGEST_FRAME
returns-then-s-le-LONGEST_FRAME c = rw (c.bits.ensures, le-leb (length c.args.s.now) 65536 c.if-s-le-LONGEST_FRAME.true)

pub returns : goal.returns
returns c = rw (lt-leb (length c.args.s.now) 65536 c.if-s-le-LONGEST_FRAME.false)
