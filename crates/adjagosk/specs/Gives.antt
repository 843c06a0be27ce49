-- What a function for other languages owes: the numbers of the entry's answer, and the lent words of the definition.
use Rattle.std.specs.Prelude.{◌≡◌, false, List, ℕ}
use Rattle.atn.specs.Entries.{Answer, Outcome, accepted, refused}
use Rattle.adjagosk.specs.declared.Numbers.{Numbers}

unfoldable pub numbers_of : Answer → Numbers
numbers_of (accepted c p m k) = record { refused = 0; cut = c; reach = p; marks = m; records = k; need = 0; lacked = 0 }
numbers_of (refused n p k l) = record { refused = n; cut = false; reach = p; marks = 0; records = 0; need = k; lacked = l }

-- the numbers r and the words w' are those of the outcome
pub record Gives (r : Numbers) (w' : List ℕ) (o : Outcome) : Type 0 where
  pub is : r ≡ numbers_of o.0
  pub words : w' ≡ o.1
