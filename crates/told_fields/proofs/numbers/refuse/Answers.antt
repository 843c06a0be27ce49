use mathlib.Core.Path.{refl}
use Rattle.told_fields.proofs.numbers.refuse.Goals as goal

pub returns : goal.returns
returns c = rw c.stop-d.ensures refl
