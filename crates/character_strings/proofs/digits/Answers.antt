use Rattle.std.proofs.Common.{◌≡◌}
use native.Mathlib.Omega.{arith}
use Rattle.character_strings.proofs.TextLaws.{digits-none, digits_more}
use Rattle.character_strings.proofs.digits.Goals as goal

pub loop-init : goal.loop-init
loop-init c = digits-none

pub loop-preserved : goal.loop-preserved
loop-preserved c = digits_more c.loop.invariant c.digit-d.ensures

pub returns : goal.returns
returns c = let e : c.loop.counter ≡ 12 = omega arith in rw e at c.loop.invariant
