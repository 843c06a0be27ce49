-- What the checker makes of an entry's answer.
use Rattle.std.specs.Prelude.{◌≡◌, Bool, true, false, List, ℕ, ◌*◌, ◌≤◌, eqb, length}
use Rattle.answers.specs.declared.Answer.{Answer}
use Rattle.answers.specs.declared.Answer.TheVariants.{Accepted, Refused}
use Rattle.answers.specs.Says.{Says}
use Rattle.atn.specs.Reading.{Rec}
use Rattle.atn.specs.Entries.{accept}
use Rattle.list_comparison.specs.declared.Checked.{Checked}
use Rattle.list_checker.specs.declared.entries.Entry.{Entry}
use Rattle.list_checker.specs.Entered.{entered, reading_of}
use Rattle.list_checker.specs.Checks.{check_list}

-- refused for want of room
abbrev pub is_full : Answer → Bool
is_full (Accepted c p m k) = false
is_full (Refused n p k j) = eqb n 7

-- the records of an accepted reading are in the words
abbrev pub Fits : Answer → List ℕ → Type 0
Fits (Accepted c p m k) w = k * 5 ≤ length w
Fits (Refused n p k j) w = Unit {0}

-- whichever entry answered so: r is said of the list, if no clean reading was refused for want of room
pub record Judges (a : Answer) (w l : List ℕ) (r : Checked) : Type 0 where
  pub judges : (s : List ℕ) (e : Entry) (down up lent : List ℕ) → Says a w (entered e down up s lent) → (is_full a ≡ true → (p : ℕ) (R : List Rec) → reading_of e down up s ≡ accept false p 0 R → ⊥)
      → r ≡ check_list s e down up l
