use Rattle.runs.proofs.WindowLaws.{why_out, why_bad, why_lack, why_none}
use Rattle.runs.proofs.windows.closed_why.Goals as goal

pub returns-then-why-eq4 : goal.returns-then-why-eq4
returns-then-why-eq4 c = why_out _ c.if-why-eq4.true

pub returns-then-why-eq5 : goal.returns-then-why-eq5
returns-then-why-eq5 c = why_bad c.if-why-eq5.true

pub returns-then-why-eq6 : goal.returns-then-why-eq6
returns-then-why-eq6 c = why_lack c.if-why-eq6.true

pub returns : goal.returns
returns c = why_none c.if-why-eq4.false c.if-why-eq5.false c.if-why-eq6.false
