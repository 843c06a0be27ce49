use native.Mathlib.Omega.{arith}
use Rattle.records.proofs.Telling.{told-length, told-then}
use Rattle.runs.proofs.RunLaws.{runs_stayed, runs_within}
use Rattle.pdu_parts.proofs.PartLaws.{extension_untold, extension-told}
use Rattle.pdu_parts.proofs.read_extension.Goals as goal

pub returns-then-c-ne0 : goal.returns-then-c-ne0
returns-then-c-ne0 c = runs_within 2 _ (omega arith) (runs_stayed _ c.if-c-ne0.true)

pub small-g-requires : goal.small-g-requires
small-g-requires c = c.requires.0

pub shape_of-words-then-e-ne0 : goal.shape_of-words-then-e-ne0
shape_of-words-then-e-ne0 c = told-length c.emit-m.ensures

pub returns-then-e-ne0 : goal.returns-then-e-ne0
returns-then-e-ne0 c = extension_untold c.if-c-ne0.false c.emit-m.ensures c.mark-d.ensures c.small-g.ensures c.if-e-ne0.true

pub emit-k-requires : goal.emit-k-requires
emit-k-requires c = omega (arith, c.requires.1, c.emit-m.ensures.few)

pub shape_of-words : goal.shape_of-words
shape_of-words c = told-length (told-then c.emit-m.ensures c.emit-k.ensures)

pub returns : goal.returns
returns c = extension-told c.if-c-ne0.false c.emit-m.ensures c.mark-d.ensures c.small-g.ensures c.if-e-ne0.false c.emit-k.ensures
