use mathlib.Core.Path.{refl}
use Rattle.list_checker.proofs.JudgeLaws.{fits, enough}
use Rattle.list_checker.proofs.check_long.Goals as goal

pub judge-requires : goal.judge-requires
judge-requires c = fits _ _ _ _ _ _ c.read-answer.ensures

pub returns : goal.returns
returns c = let says = c.read-answer.ensures in c.judge.ensures.judges _ _ _ _ _ says (enough _ _ _ _ _ refl _ says)
