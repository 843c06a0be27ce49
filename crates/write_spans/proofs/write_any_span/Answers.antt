-- `write_spans::write_any_span` meets its contract: no unit, a short length, a long one, or one that is too long.
use mathlib.Core.Path.{refl, ap, ◌∙◌}
use Prim.Native.Nat.{◌*◌}
use native.Mathlib.Omega.{arith}
use lib.ListN.{length}
use Rattle.x691.specs.Bits.{bit_of}
use Rattle.record_lists.specs.Kinds.{span_tag}
use Rattle.write_spans.proofs.InsideLaws.{inside_at}
use Rattle.write_spans.proofs.Parts.{any_empty, any_short, any_long, any_large}
use Rattle.write_spans.proofs.write_any_span.Goals as goal

pub returns-then-k-eq0 : goal.returns-then-k-eq0
returns-then-k-eq0 c =
    let a = c.args in
    let l = c.requires in
    let k = c.units_at-k in
    λ y. any_empty a.lent.src.now a.lent.records.words.now a.lent.records.len a.tag a.element a.w l.1 l.0 _ _ _ _ k.result y refl (k.ensures.0 (bit_of a.lent.src.now)) c.if-k-eq0.true c.ink.ensures

pub put_whole-requires : goal.put_whole-requires
put_whole-requires c =
    let a = c.args in
    let l = c.requires in
    let j = c.units_at-k.ensures.1 (omega (arith, c.if-k-eq0.false)) in
    (j.0, inside_at span_tag (length a.lent.src.now * 8) a.lent.records.words.now a.lent.records.len a.lent.inside_src a.p.next j.0 (ap span_tag j.1 ∙ l.0), l.1, omega arith, omega (arith, c.if-k-lt128.true))

pub returns-then-k-lt128 : goal.returns-then-k-lt128
returns-then-k-lt128 c =
    let a = c.args in
    let l = c.requires in
    let k = c.units_at-k in
    λ y. any_short a.lent.src.now a.lent.records.words.now a.lent.records.len a.tag a.element a.w l.1 l.0 _ _ _ _ k.result y refl (k.ensures.0 (bit_of a.lent.src.now)) k.ensures.1 (omega (arith, c.if-k-eq0.false)) c.if-k-lt128.true c.put_whole.ensures

pub put_whole-requires-then-k-lt16384 : goal.put_whole-requires-then-k-lt16384
put_whole-requires-then-k-lt16384 c =
    let a = c.args in
    let l = c.requires in
    let j = c.units_at-k.ensures.1 (omega (arith, c.if-k-lt128.false)) in
    (j.0, inside_at span_tag (length a.lent.src.now * 8) a.lent.records.words.now a.lent.records.len a.lent.inside_src a.p.next j.0 (ap span_tag j.1 ∙ l.0), l.1, omega arith, omega (arith, c.if-k-lt16384.true))

pub returns-then-k-lt16384 : goal.returns-then-k-lt16384
returns-then-k-lt16384 c =
    let a = c.args in
    let l = c.requires in
    let k = c.units_at-k in
    λ y. any_long a.lent.src.now a.lent.records.words.now a.lent.records.len a.tag a.element a.w l.1 l.0 _ _ _ _ k.result y refl (k.ensures.0 (bit_of a.lent.src.now)) k.ensures.1 c.if-k-lt128.false c.if-k-lt16384.true c.put_whole-then-k-lt16384.ensures

pub returns : goal.returns
returns c =
    let a = c.args in
    let l = c.requires in
    let k = c.units_at-k in
    λ y. any_large a.lent.src.now a.lent.records.words.now a.lent.records.len a.tag a.element a.w l.1 l.0 _ _ _ _ k.result y refl (k.ensures.0 (bit_of a.lent.src.now)) c.if-k-lt16384.false refl
