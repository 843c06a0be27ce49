use mathlib.Core.Path.{◌≡◌, sym, ap, ◌∙◌}
use native.Mathlib.Omega.{arith}
use lib.Dec.{eqb}
use Rattle.record_views.specs.View.{records_from}
use Rattle.record_grammar.specs.declared.Walk.{Walk}
use Rattle.record_grammar.specs.Heard.{start, walked, heard}
use Rattle.record_grammar.proofs.HearingLaws.{walked_on, walked_all}
use Rattle.record_grammar.proofs.hearing.hear.Goals as goal

pub loop-i-init : goal.loop-i-init
loop-i-init c = rw c.begin-s.ensures

pub loop-i-preserved : goal.loop-i-preserved
loop-i-preserved c =
    let e = c.args in
    let l = c.loop-i in
    let h = c.loop-i-test.true in
    l.invariant ∙ walked_on e.rows.now e.words.now l.s l.i (rw c.records_in-n.ensures at h) c.record_at-x.ensures c.step-s.ensures

pub returns : goal.returns
unfolding heard
returns c =
    let e = c.args in
    let l = c.loop-i in
    let n = c.records_in-n.result in
    let same : l.i ≡ n = omega (arith, c.loop-i-test.false) in
    let q : walked e.rows.now start (records_from 0 e.words.now) ≡ walked e.rows.now l.s (records_from n e.words.now) = rw same at l.invariant in
    ap (λ (w : Walk). eqb w.at 3) (sym (walked_all e.rows.now e.words.now l.s n c.records_in-n.ensures q c.record_at-end.ensures c.step-done.ensures))
