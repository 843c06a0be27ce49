use mathlib.Core.Path.{ap}
use native.Mathlib.Omega.{arith}
use lib.ListN.{length}
use Rattle.saved_books.proofs.SaveLaws.{next-size, next-orderly, next-length, no_bytes}
use Rattle.saved_books.proofs.bytes_needed.Goals as goal

pub loop-e-preserved : goal.loop-e-preserved
loop-e-preserved c =
    let z = c.loop-e.invariant in
    let is = c.in-Some.ensures.steps in
    (omega (arith, ap length is, c.name_digits.ensures, (next-size is z.1).1), next-orderly is z.1, omega (arith, c.name_digits.ensures, next-length is))

pub returns : goal.returns
returns c = omega (arith, no_bytes c.in-None.ensures.steps.0)
