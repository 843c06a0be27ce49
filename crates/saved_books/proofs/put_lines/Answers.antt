use mathlib.Core.Path.{ap, ◌∙◌}
use native.Mathlib.Omega.{arith}
use lib.ListN.{length}
use Rattle.book_lines.specs.Lines.{line}
use Rattle.book_lines.proofs.LineLaws.{line-length, put-length}
use Rattle.saved_books.proofs.SaveLaws.{next-size, next-orderly, next-length, next-line, ended}
use Rattle.saved_books.proofs.put_lines.Goals as goal

pub put_line-requires : goal.put_line-requires
put_line-requires c =
    let z = c.loop-e.invariant in
    let is = c.in-Some.ensures.steps in
    let s = next-size is z.2 in
    (s.0, s.1, omega (arith, next-length is))

pub loop-e-preserved : goal.loop-e-preserved
loop-e-preserved c =
    let z = c.loop-e in
    let e = c.in-Some.e in
    let is = c.in-Some.ensures.steps in
    let long = ap length c.put_line.ensures ∙ put-length z.at (line e) z.out (omega (arith, line-length e, next-length is)) in (
      long ∙ z.invariant.0,
      omega (arith, long, next-length is, c.name_digits.ensures),
      next-orderly is z.invariant.2,
      next-line is z.at z.out z.invariant.3 c.put_line.ensures (omega (arith, c.name_digits.ensures)) (omega (arith, next-length is)),
    )

pub returns : goal.returns
returns c = ended c.in-None.ensures.steps.0 c.loop-e.at c.loop-e.out c.loop-e.invariant.3
