use Rattle.std.proofs.Common.{rules, subst}
use Rattle.hexadecimal.specs.Hex.{Decodes}
use Rattle.line_input.proofs.parts.Octets.frame.Goals as goal

pub returns-in-Err-clause-refused : goal.returns-in-Err-clause-refused
returns-in-Err-clause-refused c = λ text so. subst (Decodes text _) c.in-Err.is (c.whole.ensures.came text _ (search rules) so)
