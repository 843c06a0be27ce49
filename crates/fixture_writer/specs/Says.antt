-- An answer of the writer, in the words of the definition.
use Rattle.std.specs.Prelude.{◌≡◌, false, List, ℕ, Result, Ok, Err}
use Rattle.record_lists.specs.Message as message
use Rattle.pens.specs.Stand.{Stand}
use Rattle.fixture_writer.specs.declared.Refusal.{Refusal}
use Rattle.fixture_writer.specs.declared.Refusal.TheVariants.{TablesUnfit, NoDirection, NoMessage, TooFewBytes}

-- where the writer stands before the first record and the first bit
abbrev pub front : Stand
front = record { next = 0; at = 0; off = false }

abbrev pub number_of : Refusal → ℕ
number_of TablesUnfit = 2
number_of NoDirection = 3
number_of NoMessage = 8
number_of (TooFewBytes k) = 9

-- only the last needs bytes
abbrev pub need_of : Refusal → ℕ
need_of TablesUnfit = 0
need_of NoDirection = 0
need_of NoMessage = 0
need_of (TooFewBytes k) = k

unfoldable pub answer_of : Result ℕ Refusal → message.Written
answer_of (Ok n) = message.written n
answer_of (Err e) = message.refused (number_of e) (need_of e)

-- the answer r, with the bytes Y lent afterwards, is the outcome o
abbrev pub Says : Result ℕ Refusal → List ℕ → message.Written × List ℕ → Type 0
Says r Y o = (answer_of r, Y) ≡ o
