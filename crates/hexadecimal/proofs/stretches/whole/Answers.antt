use Rattle.std.proofs.Common.{arith, subst}
use Rattle.hexadecimal.specs.Stretches.{Stands}
use Rattle.hexadecimal.proofs.StretchLaws.{refused, waits, right}
use Rattle.hexadecimal.proofs.stretches.whole.Goals as goal

pub returns-in-Some-clause-came : goal.returns-in-Some-clause-came
returns-in-Some-clause-came c = λ text frame l so. refused text frame c.args.digits.taken l c.in-Some.refusal (subst (Stands text frame c.args.digits.taken) c.in-Some.is so.is)

pub returns-in-None-clause-came : goal.returns-in-None-clause-came
returns-in-None-clause-came c = λ text frame l so. waits text frame c.args.digits.taken l (omega (arith, c.if-digits-eq1.true)) (subst (Stands text frame c.args.digits.taken) c.in-None.is so.is)

pub returns-in-None-2-clause-came : goal.returns-in-None-2-clause-came
returns-in-None-2-clause-came c = λ text frame l so. right text frame c.args.digits.taken l (omega (arith, c.if-digits-eq1.false)) (subst (Stands text frame c.args.digits.taken) c.in-None.is so.is)
