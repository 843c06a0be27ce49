use Prim.Native.Nat.{◌^◌}
use Rattle.screen_text.specs.Text.{number}
use Rattle.screen_text.proofs.PhraseLaws.{table-short}
use Rattle.screen_text.proofs.TextLaws.{going_start, going_near, going_on, going_all, not_many}
use Rattle.screen_text.proofs.put_lines.Goals as goal

pub loop-i-init : goal.loop-i-init
loop-i-init c = going_start _ _ _ _

pub put_record_line-at-requires : goal.put_record_line-at-requires
put_record_line-at-requires c = let e = c.args in let q = c.requires in (not_many e.words.now _ (rw c.records_in-i-end.ensures at c.loop-i-test.true) q.0, going_near c.loop-i.invariant, rw c.table_of-table.ensures (table-short e.down.now e.up.now (number c.direction_after-d.result) (2 ^ 44) q.1 q.2))

pub loop-i-preserved : goal.loop-i-preserved
loop-i-preserved c = going_on c.loop-i.invariant (number c.direction_after-d.result) (rw c.records_in-i-end.ensures at c.loop-i-test.true) c.record_at-x.ensures c.direction_after-d.ensures c.table_of-table.ensures c.left_after-n.ensures (rw (← c.record_at-x.ensures) at c.put_record_line-at.ensures)

pub returns : goal.returns
returns c = going_all c.loop-i.invariant (rw c.records_in-i-end.ensures at c.loop-i-test.false)
