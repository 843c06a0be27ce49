use native.Mathlib.Omega.{arith}
use Rattle.records.proofs.Telling.{told-length, told-then}
use Rattle.runs.proofs.RunLaws.{runs_within}
use Rattle.pdus.proofs.PduLaws.{few_bits, pdu-extended, pdu_stuck, pdu-read}
use Rattle.pdus.proofs.choices.read_pdu.Goals as goal

pub read_extension-requires : goal.read_extension-requires
read_extension-requires c = (c.requires.0, omega (arith, c.requires.1, c.emit-m.ensures.few))

pub shape_of-words-then-extension-ne0 : goal.shape_of-words-then-extension-ne0
shape_of-words-then-extension-ne0 c = told-length (told-then c.emit-m.ensures c.read_extension.ensures.told)

pub returns-then-extension-ne0 : goal.returns-then-extension-ne0
returns-then-extension-ne0 c = runs_within 236124 _ (omega arith) (pdu-extended _ _ _ c.requires.6 c.requires.7 c.emit-m.ensures c.bits-extension.ensures c.if-extension-ne0.true c.mark-e.ensures c.read_extension.ensures)

pub bits-g-requires : goal.bits-g-requires
bits-g-requires c = few_bits _ c.index_bits-width.ensures

pub shape_of-words-then-e-ne0 : goal.shape_of-words-then-e-ne0
shape_of-words-then-e-ne0 c = told-length c.emit-m.ensures

pub returns-then-e-ne0 : goal.returns-then-e-ne0
returns-then-e-ne0 c = runs_within 236124 _ (omega arith) (pdu_stuck _ _ _ c.requires.6 c.requires.7 c.emit-m.ensures c.bits-extension.ensures c.if-extension-ne0.false c.index_bits-width.ensures c.bits-g.ensures c.if-e-ne0.true)

pub emit-k-requires : goal.emit-k-requires
emit-k-requires c = omega (arith, c.requires.1, c.emit-m.ensures.few)

pub alternative-requires : goal.alternative-requires
alternative-requires c = (c.requires.0, omega (arith, c.requires.1, c.emit-m.ensures.few, c.emit-k.ensures.few), c.requires.2, c.requires.3, c.requires.4, c.requires.5)

pub shape_of-words : goal.shape_of-words
shape_of-words c = told-length (told-then c.emit-m.ensures (told-then c.emit-k.ensures c.alternative.ensures.told))

pub returns : goal.returns
returns c = pdu-read _ _ _ c.requires.6 c.requires.7 c.emit-m.ensures c.bits-extension.ensures c.if-extension-ne0.false c.index_bits-width.ensures c.bits-g.ensures c.if-e-ne0.false c.emit-k.ensures c.alternative.ensures
