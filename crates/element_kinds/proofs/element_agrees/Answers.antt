use mathlib.Core.Path.{sym}
use Prim.Native.Nat.{◌+◌}
use Rattle.record_views.specs.View.{records_from}
use Rattle.element_kinds.proofs.KindLaws.{no_element_agrees, element-agrees}
use Rattle.element_kinds.proofs.element_agrees.Goals as goal

pub returns-then-x-eq-ELEMENT_INDEX : goal.returns-then-x-eq-ELEMENT_INDEX
returns-then-x-eq-ELEMENT_INDEX c = let e = c.args in element-agrees e.words.now e.i 0 0 c.record_at-x.ensures (records_from (e.i + 1) e.words.now) c.if-x-eq-ELEMENT_INDEX.true (sym c.kind_at-kind.ensures) c.later_agree.ensures

pub returns : goal.returns
returns c = let e = c.args in no_element_agrees e.words.now e.i 0 0 c.record_at-x.ensures (records_from (e.i + 1) e.words.now) c.if-x-eq-ELEMENT_INDEX.false
