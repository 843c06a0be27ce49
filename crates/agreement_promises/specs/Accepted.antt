-- What the records of an accepted frame are to be: each element has the argument of one lent table, and so an index has one type of argument in the list, or none at the end.
use Rattle.std.specs.Prelude.{Bool, true, List, ◌⊎◌, ◌≡◌, ℕ}
use Rattle.atn.specs.Reading.{Rec}
use Rattle.atn.specs.Entries.{Reply, accept, Outcome}
use Rattle.record_views.specs.View.{records_from}
use Rattle.element_kinds.specs.Agreed.{agreed}
use Rattle.screen.specs.Placed.{placed}
use Rattle.grammar_promises.specs.Accepted.{Wrote}
use Rattle.agreement_promises.specs.Kept.{table_kind, keeps}

-- of a way to read frames: the records of every frame that it accepts
abbrev pub All : (List Rec → Type 0) → (List ℕ → Reply) → Type 0
All P read = (s : List ℕ) (cut : Bool) (p m : ℕ) (R : List Rec) → read s ≡ accept cut p m R → P R

abbrev pub AllAgreed : (List ℕ → Reply) → Type 0
AllAgreed read = All (λ R. agreed R ≡ true) read

-- all elements of a message are of one table
abbrev pub ByOne : List ℕ → List ℕ → List Rec → Type 0
ByOne down up R = (keeps (table_kind down) R ≡ true) ⊎ (keeps (table_kind up) R ≡ true)

-- of the words that an accepted answer wrote
abbrev pub Agreed : Outcome → Type 0
Agreed o = Wrote (λ w. agreed (records_from 0 w) ≡ true) o.0 o.1

-- where its fields begin
abbrev pub Placed : Outcome → Type 0
Placed o = Wrote (λ w. placed 0 (records_from 0 w) ≡ true) o.0 o.1
