-- `write_spans::inside::is_inside` meets its contract: by the tag, and then by the place.
use Prim.Native.Nat.{◌*◌}
use lib.ListN.{length}
use Rattle.record_lists.specs.Kinds.{span_tag}
use Rattle.write_spans.proofs.InsideLaws.{span_lies, other_lies}
use Rattle.write_spans.proofs.inside.is_inside.Goals as goal

pub returns-then-is_span_tag : goal.returns-then-is_span_tag
returns-then-is_span_tag c =
    let a = c.args in
    span_lies span_tag (length a.src.now * 8) a.records.words.now a.i c.is_span_tag.ensures c.if-is_span_tag.true c.has_bits.ensures

pub returns : goal.returns
returns c =
    let a = c.args in
    other_lies span_tag (length a.src.now * 8) a.records.words.now a.i c.is_span_tag.ensures c.if-is_span_tag.false
