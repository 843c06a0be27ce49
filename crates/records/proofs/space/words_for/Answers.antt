-- `words_for` meets its contract.
use Rattle.std.proofs.Common.{arith}
use Rattle.atn.specs.Entries.{need}
use Rattle.records.specs.Space.{size, space}
use Rattle.records.proofs.space.words_for.Goals as goal

pub overflow_mul-result : goal.overflow_mul-result
overflow_mul-result c = omega arith

pub returns : goal.returns
unfolding space size need
returns c = omega arith
