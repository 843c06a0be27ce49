use native.Mathlib.Omega.{arith}
use Rattle.records.proofs.Telling.{told-length, told-then}
use Rattle.protected.proofs.ProtectedLaws.{protected-extended, protected-read}
use Rattle.protected.proofs.read_protected.Goals as goal

pub returns-then-extension-ne0 : goal.returns-then-extension-ne0
returns-then-extension-ne0 c = protected-extended _ c.bits-extension.ensures c.if-extension-ne0.true c.mark-marked.ensures c.stop-d.ensures

pub message_part-x-requires : goal.message_part-x-requires
message_part-x-requires c = (c.requires.0, omega (arith, c.requires.1), c.requires.2, c.requires.3)

pub read_integrity-requires : goal.read_integrity-requires
read_integrity-requires c = (c.requires.0, omega (arith, c.requires.1, c.message_part-x.ensures.told.few))

pub shape_of-words : goal.shape_of-words
shape_of-words c = told-length (told-then c.message_part-x.ensures.told c.read_integrity.ensures.told)

pub returns : goal.returns
returns c = protected-read _ c.bits-extension.ensures c.if-extension-ne0.false c.presence-has.ensures c.skip_algorithm-d.ensures c.message_part-x.ensures c.read_integrity.ensures
