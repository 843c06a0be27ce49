use mathlib.Core.Path.{sym, ◌∙◌}
use Rattle.screen_text.specs.Text.{number}
use Rattle.screen_text.proofs.PhraseLaws.{phrased-step, phrased-end}
use Rattle.screen_text.proofs.have_phrases.Goals as goal

pub loop-i-preserved : goal.loop-i-preserved
loop-i-preserved c = let e = c.args in let l = c.loop-i in l.invariant ∙ (rw c.if-not-is_phrased.false at (phrased-step e.down.now e.up.now e.words.now (number l.d) l.i (number c.direction_after-d.result) (rw c.records_in-i-end.ensures at c.loop-i-test.true) c.record_at-x.ensures c.direction_after-d.ensures c.table_of-table.ensures c.is_phrased.ensures))

pub returns-then-not-is_phrased : goal.returns-then-not-is_phrased
returns-then-not-is_phrased c = let e = c.args in let l = c.loop-i in sym (l.invariant ∙ (rw c.if-not-is_phrased.true at (phrased-step e.down.now e.up.now e.words.now (number l.d) l.i (number c.direction_after-d.result) (rw c.records_in-i-end.ensures at c.loop-i-test.true) c.record_at-x.ensures c.direction_after-d.ensures c.table_of-table.ensures c.is_phrased.ensures)))

pub returns : goal.returns
returns c = let e = c.args in let l = c.loop-i in sym (l.invariant ∙ phrased-end e.down.now e.up.now e.words.now (number l.d) l.i (rw c.records_in-i-end.ensures at c.loop-i-test.false))
