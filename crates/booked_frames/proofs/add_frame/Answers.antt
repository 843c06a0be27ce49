use Rattle.booked_frames.proofs.FrameLaws.{no_name, by_name, enters}
use Rattle.booked_frames.proofs.add_frame.Goals as goal

pub returns-then-name-ne0 : goal.returns-then-name-ne0
returns-then-name-ne0 c =
    let a = c.args in
    no_name a.book.now a.frame.now a.number a.down.now a.up.now c.forward_name-name.ensures c.if-name-ne0.true c.add_entry.ensures

pub entry_of-requires : goal.entry_of-requires
entry_of-requires c =
    let a = c.args in
    enters a.frame.now a.down.now a.up.now c.forward_name-name.ensures c.if-name-ne0.false

pub returns : goal.returns
returns c =
    let a = c.args in
    by_name a.book.now a.frame.now a.number a.down.now a.up.now c.forward_name-name.ensures c.if-name-ne0.false (rw c.entry_of.ensures at c.add_entry-2.ensures)
