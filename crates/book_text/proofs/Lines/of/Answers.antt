use Rattle.book_text.proofs.CutLaws.{few_lines}
use Rattle.book_text.proofs.Lines.of.Goals as goal
use native.Mathlib.Omega.{arith}
use mathlib.Core.List.{[]}

pub returns-clause-few : goal.returns-clause-few
returns-clause-few c = omega (arith, few_lines [] c.args.text.now)
