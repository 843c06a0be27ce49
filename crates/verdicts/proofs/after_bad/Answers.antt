use native.Mathlib.Omega.{arith}
use Rattle.verdicts.proofs.VerdictLaws.{verdict-after-bad}
use Rattle.verdicts.proofs.after_bad.Goals as goal

pub returns : goal.returns
returns c = (verdict-after-bad _ c.larger-reach.ensures, omega arith)
