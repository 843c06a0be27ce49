use mathlib.Core.Path.{sym, ap}
use Rattle.answers.specs.Says.{answer_of}
use Rattle.adjagosk.specs.Gives.{numbers_of}
use Rattle.adjagosk.proofs.in_numbers.Goals as goal

pub returns-in-Accepted : goal.returns-in-Accepted
unfolding numbers_of
returns-in-Accepted c = sym (ap (λ x. numbers_of (answer_of x)) c.in-Accepted.is)

pub returns-in-Refused : goal.returns-in-Refused
unfolding numbers_of
returns-in-Refused c = sym (ap (λ x. numbers_of (answer_of x)) c.in-Refused.is)
