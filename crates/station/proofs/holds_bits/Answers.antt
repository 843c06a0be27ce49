use Rattle.std.proofs.Common.{◌*◌, sym, arith, le-leb}
use borrow.Author.Tests.{lt-leb}
use Rattle.station.proofs.OfferLaws.{whole-bytes}
use Rattle.station.proofs.holds_bits.Goals as goal

pub returns-then-bits-bytes : goal.returns-then-bits-bytes
returns-then-bits-bytes c = sym (le-leb c.args.bits (c.args.bytes * 8) (omega arith))

pub returns-then-bits-ne0 : goal.returns-then-bits-ne0
returns-then-bits-ne0 c = sym (lt-leb c.args.bits (c.args.bytes * 8) (omega arith))

pub returns : goal.returns
returns c = whole-bytes c.args.bytes c.args.bits (omega arith) (omega arith)
