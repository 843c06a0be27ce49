use mathlib.Core.Path.{refl}
use native.Mathlib.Omega.{arith}
use Rattle.atn.specs.Reading.{or, mark}
use Rattle.clearance_attempts.proofs.excuse.Goals as goal

pub returns-in-4 : goal.returns-in-4
unfolding or mark
returns-in-4 c = record { given = λ l h. refl; kept = λ k. absurd (k (omega arith) (omega arith)) }

pub returns-in_default : goal.returns-in_default
returns-in_default c = record { given = λ l h. absurd (omega arith); kept = λ k. refl }

pub returns-in_default-2 : goal.returns-in_default-2
returns-in_default-2 c = record { given = λ l h. absurd (omega arith); kept = λ k. refl }
