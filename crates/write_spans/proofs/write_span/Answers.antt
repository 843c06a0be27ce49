-- `write_spans::write_span` meets its contract: the size is out of range, or the span in front is put behind it.
use mathlib.Core.Path.{refl, ap, ◌∙◌}
use Prim.Native.Nat.{◌*◌}
use native.Mathlib.Omega.{arith}
use lib.ListN.{length}
use Rattle.x691.specs.Bits.{bit_of}
use Rattle.record_lists.specs.Kinds.{span_tag}
use Rattle.write_spans.proofs.InsideLaws.{inside_at}
use Rattle.write_spans.proofs.Parts.{size_fits, span_small, span_large, span-put}
use Rattle.write_spans.proofs.write_span.Goals as goal

pub returns-then-k-lo : goal.returns-then-k-lo
returns-then-k-lo c =
    let a = c.args in
    let l = c.requires in
    let k = c.units_at-k in
    λ y. span_small a.lent.src.now a.lent.records.words.now a.lent.records.len a.tag a.element a.w l.1 l.0 _ _ _ _ k.result y refl (k.ensures.0 (bit_of a.lent.src.now)) a.lo a.hi c.if-k-lo.true refl

pub returns-then-hi-k : goal.returns-then-hi-k
returns-then-hi-k c =
    let a = c.args in
    let l = c.requires in
    let k = c.units_at-k in
    λ y. span_large a.lent.src.now a.lent.records.words.now a.lent.records.len a.tag a.element a.w l.1 l.0 _ _ _ _ k.result y refl (k.ensures.0 (bit_of a.lent.src.now)) a.lo a.hi c.if-k-lo.false c.if-hi-k.true refl

pub put_whole-requires : goal.put_whole-requires
put_whole-requires c =
    let a = c.args in
    let l = c.requires in
    let j = c.units_at-k.ensures.1 (omega (arith, l.2, c.if-k-lo.false)) in
    let b = c.bits_for.ensures in
    (j.0, inside_at span_tag (length a.lent.src.now * 8) a.lent.records.words.now a.lent.records.len a.lent.inside_src a.p.next j.0 (ap span_tag j.1 ∙ l.0), l.1, b.1, size_fits a.lo a.hi c.units_at-k.result _ c.if-hi-k.false b.0)

pub returns : goal.returns
returns c =
    let a = c.args in
    let l = c.requires in
    let k = c.units_at-k in
    λ y. span-put a.lent.src.now a.lent.records.words.now a.lent.records.len a.tag a.element a.w l.1 l.0 _ _ _ _ k.result y refl (k.ensures.0 (bit_of a.lent.src.now)) a.lo a.hi k.ensures.1 l.2 c.if-k-lo.false c.if-hi-k.false c.bits_for.ensures.0 c.put_whole.ensures
