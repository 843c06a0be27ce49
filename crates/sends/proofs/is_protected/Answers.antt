use mathlib.Core.Bool.{false≢true}
use mathlib.Core.Logic.{inl, inr}
use Rattle.sends.proofs.is_protected.Goals as goal

pub returns-then-index-eq3 : goal.returns-then-index-eq3
returns-then-index-eq3 c _ = inl c.if-index-eq3.true

pub returns-then-direction-ne0 : goal.returns-then-direction-ne0
returns-then-direction-ne0 c _ = inr (c.if-index-eq2.true, c.if-direction-ne0.true)

pub returns-else-direction-ne0 : goal.returns-else-direction-ne0
returns-else-direction-ne0 c t = absurd (false≢true t)

pub returns-else-index-eq2 : goal.returns-else-index-eq2
returns-else-index-eq2 c t = absurd (false≢true t)
