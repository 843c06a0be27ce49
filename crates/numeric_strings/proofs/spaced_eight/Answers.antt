use native.Mathlib.Omega.{arith}
use Rattle.per.proofs.Laws.{one-shl_pos}
use Rattle.numeric_strings.proofs.SpacingLaws.{left-all, left-none, left-room, Turn, turn}
use Rattle.numeric_strings.proofs.spaced_eight.Goals as goal

turned : (c : goal.After-spaced_octet) → let l = c.loop-k in Turn c.args.v l.r l.rest l.k c.spaced_octet.result
turned c = turn _ _ c.loop-k-test.true c.loop-k.invariant c.spaced_octet.ensures

pub loop-k-init : goal.loop-k-init
loop-k-init c = left-all _ (omega arith)

pub overflow_mul-r : goal.overflow_mul-r
overflow_mul-r c = omega (arith, left-room _ c.loop-k-test.true c.loop-k.invariant)

pub overflow_add-r : goal.overflow_add-r
overflow_add-r c = omega (arith, (turned c).fits)

pub loop-k-preserved : goal.loop-k-preserved
loop-k-preserved c = (turned c).next

pub returns : goal.returns
returns c = left-none _ c.loop-k-test.false c.loop-k.invariant
