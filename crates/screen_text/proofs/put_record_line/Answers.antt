use Prim.Native.Nat.{◌+◌}
use Rattle.record_views.specs.View.{records_from}
use Rattle.screen_text.proofs.LineLaws.{puts-nothing, puts_no_more, puts-index}
use Rattle.screen_text.proofs.put_record_line.Goals as goal

pub returns-then-n-eq0 : goal.returns-then-n-eq0
returns-then-n-eq0 c = let e = c.args in rw (← c.record_at-x.ensures) (puts_no_more _ e.at e.n e.table.now c.record_at-x.result (records_from (e.i + 1) e.words.now) c.if-n-eq0.true)

pub returns-then-x-eq-ELEMENT_INDEX : goal.returns-then-x-eq-ELEMENT_INDEX
returns-then-x-eq-ELEMENT_INDEX c = let e = c.args in rw (← c.record_at-x.ensures) (puts-index _ e.at e.n e.table.now c.record_at-x.result (records_from (e.i + 1) e.words.now) c.if-x-eq-ELEMENT_INDEX.true c.if-n-eq0.false c.put_line.ensures)

pub returns : goal.returns
returns c = let e = c.args in rw (← c.record_at-x.ensures) (puts-nothing _ e.at e.n e.table.now c.record_at-x.result (records_from (e.i + 1) e.words.now) c.if-x-eq-ELEMENT_INDEX.false)
