use mathlib.Core.Path.{refl}
use native.Mathlib.Omega.{arith}
use Rattle.records.proofs.Telling.{told-length, told-then}
use Rattle.pdu_alternatives.proofs.AlternativeLaws.{start-read}
use Rattle.pdu_alternatives.proofs.read_start.Goals as goal

pub maybe_number_field-x-requires : goal.maybe_number_field-x-requires
maybe_number_field-x-requires c = (refl, omega (arith, c.requires.1))

pub read_protected-requires : goal.read_protected-requires
read_protected-requires c = (c.requires.0, omega (arith, c.requires.1, c.maybe_number_field-x.ensures.told.few), c.requires.2, c.requires.3)

pub shape_of-words : goal.shape_of-words
shape_of-words c = told-length (told-then c.maybe_number_field-x.ensures.told c.read_protected.ensures.told)

pub returns : goal.returns
returns c = start-read _ c.presence-has.ensures c.maybe_number_field-x.ensures c.read_protected.ensures
