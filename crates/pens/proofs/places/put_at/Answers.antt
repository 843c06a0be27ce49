-- `pens::places::put_at` meets its contract.
use native.Mathlib.Omega.{arith}
use Rattle.pens.proofs.places.put_at.Goals as goal

pub returns-then-at-gt-LIMIT : goal.returns-then-at-gt-LIMIT
returns-then-at-gt-LIMIT c = λ l. absurd (omega (arith, l, c.if-at-gt-LIMIT.true))

pub returns : goal.returns
returns c = λ _. c.put.ensures
