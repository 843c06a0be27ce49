-- `read_message` meets its contract: its header at once where there is ample room, else field by field.
use native.Mathlib.Omega.{arith}
use Rattle.atn.specs.Reading.{or}
use Rattle.message.proofs.AmpleHeader.{message_ample}
use Rattle.message.proofs.data.read_message.Goals as goal

pub read_header-x-requires : goal.read_header-x-requires
read_header-x-requires c =
    let h = c.is_ample.ensures (c.if-not-is_ample.false) in
    (omega (arith, c.requires.0), h.4, omega (arith, h.3), h.2)

pub returns : goal.returns
unfolding or
returns c =
    let h = c.is_ample.ensures (c.if-not-is_ample.false) in
    message_ample c.args.table.now h.0 h.1 c.read_header-x.ensures c.read_data.ensures
