use Rattle.list_checker.proofs.JudgeLaws.{fits, not_full}
use Rattle.list_checker.proofs.check_list.Goals as goal

pub judge-requires : goal.judge-requires
judge-requires c = fits _ _ _ _ _ _ c.read-answer.ensures

pub returns : goal.returns
returns c = c.judge.ensures.judges _ _ _ _ _ c.read-answer.ensures (λ f. not_full c.is_full.ensures c.if-is_full.false f)
