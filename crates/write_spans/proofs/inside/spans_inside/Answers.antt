use mathlib.Core.Path.{sym, ◌∙◌}
use Prim.Native.Nat.{◌*◌}
use lib.ListN.{length}
use Rattle.record_lists.specs.Kinds.{span_tag}
use Rattle.write_spans.proofs.InsideLaws.{inside-end, inside-next, inside-not}
use Rattle.write_spans.proofs.inside.spans_inside.Goals as goal

pub returns : goal.returns
returns c =
    let a = c.args in
    let z = c.loop-i in
    sym (z.invariant ∙ inside-end span_tag (length a.src.now * 8) a.records.words.now a.records.len z.i c.loop-i-test.false)

pub returns-then-not-is_inside : goal.returns-then-not-is_inside
returns-then-not-is_inside c =
    let a = c.args in
    let z = c.loop-i in
    sym (z.invariant ∙ inside-not span_tag (length a.src.now * 8) a.records.words.now a.records.len z.i c.loop-i-test.true c.is_inside.ensures c.if-not-is_inside.true)

pub loop-i-preserved : goal.loop-i-preserved
loop-i-preserved c =
    let a = c.args in
    let z = c.loop-i in
    z.invariant ∙ inside-next span_tag (length a.src.now * 8) a.records.words.now a.records.len z.i c.loop-i-test.true c.is_inside.ensures c.if-not-is_inside.false
