use native.Mathlib.Omega.{arith}
use Rattle.records.proofs.Telling.{told-length, told-then}
use Rattle.runs.proofs.RunLaws.{runs_within}
use Rattle.message.proofs.DataLaws.{data_read}
use Rattle.message.proofs.data.read_data.Goals as goal

pub read_elements-y-requires : goal.read_elements-y-requires
read_elements-y-requires c = (omega (arith, c.requires.0, c.size-count.ensures.few), omega (arith, c.size-count.ensures.few), c.requires.1, c.requires.2)

pub maybe_constrained-requires : goal.maybe_constrained-requires
maybe_constrained-requires c = omega (arith, c.requires.0, c.size-count.ensures.few, c.read_elements-y.ensures.told.few)

pub shape_of-words : goal.shape_of-words
shape_of-words c = told-length (told-then c.read_elements-y.ensures.told c.maybe_constrained.ensures.told)

pub returns : goal.returns
returns c = runs_within 236050 _ (omega (arith, c.size-count.ensures.few)) (data_read _ c.presence-has.ensures c.size-count.ensures c.read_elements-y.ensures c.maybe_constrained.ensures)
