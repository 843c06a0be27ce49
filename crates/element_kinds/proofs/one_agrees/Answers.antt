use mathlib.Core.Path.{sym}
use Prim.Native.Nat.{◌+◌}
use Rattle.record_views.specs.View.{records_from}
use Rattle.element_kinds.specs.Kinds.{byte_of}
use Rattle.element_kinds.proofs.KindLaws.{tag_now, no_element, no_index, same_index}
use Rattle.element_kinds.proofs.one_agrees.Goals.{else-x-eq-ELEMENT_INDEX-via-then-x-eq-ELEMENT_INDEX+else-x-index, else-x-eq-ELEMENT_INDEX-via-else-x-eq-ELEMENT_INDEX}
use Rattle.element_kinds.proofs.one_agrees.Goals as goal

pub returns-then-x-index : goal.returns-then-x-index
returns-then-x-index c = let e = c.args in same_index e.words.now e.i e.index (byte_of e.kind) c.record_at-x.ensures (records_from (e.i + 1) e.words.now) c.if-x-eq-ELEMENT_INDEX.true c.if-x-index.true (sym c.kind_at-k.ensures) (tag_now e.words.now (e.i + 1) c.record_at-next.ensures) c.kind_agrees.ensures

pub returns : goal.returns
returns c =
    let e = c.args in
    elim c.else-x-eq-ELEMENT_INDEX.branch [
      | else-x-eq-ELEMENT_INDEX-via-then-x-eq-ELEMENT_INDEX+else-x-index w ↦ no_index e.words.now e.i e.index (byte_of e.kind) c.record_at-x.ensures (records_from (e.i + 1) e.words.now) w.if-x-eq-ELEMENT_INDEX.true w.if-x-index.false
      | else-x-eq-ELEMENT_INDEX-via-else-x-eq-ELEMENT_INDEX w ↦ no_element e.words.now e.i e.index (byte_of e.kind) c.record_at-x.ensures (records_from (e.i + 1) e.words.now) w.if-x-eq-ELEMENT_INDEX.false
    ]
