use Rattle.std.proofs.Common.{arith, refl}
use Rattle.screen_elements.specs.Lines.{value_count}
use Rattle.screen_elements.proofs.FillLaws.{one-value}
use Rattle.screen_elements.proofs.value_count.Goals as goal

pub returns-in-ThreeSpeedTypes : goal.returns-in-ThreeSpeedTypes
unfolding value_count
returns-in-ThreeSpeedTypes c = rw c.in-ThreeSpeedTypes.is (refl, omega arith)

pub returns-in_default : goal.returns-in_default
returns-in_default c = (one-value c.args.kind c.in_default.not-ThreeSpeedTypes, omega arith)
