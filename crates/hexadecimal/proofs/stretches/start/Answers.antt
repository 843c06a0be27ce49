use mathlib.Core.Path.{refl}
use Rattle.hexadecimal.proofs.StretchLaws.{nothing}
use Rattle.hexadecimal.proofs.stretches.start.Goals as goal

pub returns-clause-so_far : goal.returns-clause-so_far
returns-clause-so_far c = λ frame. record { is = (refl, nothing frame) }
