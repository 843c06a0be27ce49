-- An entry's answer put into numbers.
use mathlib.Core.Path.{◌≡◌, ap, ◌∙◌}
use mathlib.Core.List.{List}
use Prim.Native.Nat.{ℕ}
use Rattle.atn.specs.Entries.{Outcome}
use Rattle.answers.specs.declared.Answer.{Answer}
use Rattle.answers.specs.Says.{Says, answer_of}
use Rattle.adjagosk.specs.declared.Numbers.{Numbers}
use Rattle.adjagosk.specs.Gives.{Gives, numbers_of}

pub gives : {a : Answer} {r : Numbers} {w : List ℕ} {o : Outcome} → Says a w o → r ≡ numbers_of (answer_of a) → Gives r w o
gives s e = record { is = e ∙ ap (λ x. numbers_of x.0) s.is; words = ap (λ x. x.1) s.is }
