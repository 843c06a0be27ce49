-- The answer's number and values as document 01 has them, and what an entry owes: answer and lent words are those of the definition.
use Rattle.std.specs.Prelude.{◌≡◌, List, ℕ}
use Rattle.atn.specs.Entries.{Outcome, accepted, refused}
use Rattle.atn.specs.Entries as entries
use Rattle.answers.specs.declared.Answer.{Answer}
use Rattle.answers.specs.declared.Answer.TheVariants.{Accepted, Refused}

abbrev pub answer_of : Answer → entries.Answer
answer_of (Accepted c p m k) = accepted c p m k
answer_of (Refused n p k l) = refused n p k l

-- the answer r and the words w' are those of the outcome
pub record Says (r : Answer) (w' : List ℕ) (o : Outcome) : Type 0 where
  pub is : (answer_of r, w') ≡ o
