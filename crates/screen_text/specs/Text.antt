-- "From records, a line per element, ended by a line feed".
use Rattle.std.specs.Prelude.{Bool, true, cond, ◌&&◌, List, [], ◌∷◌, ◌++◌, ℕ, ◌-◌, ◌*◌, eqb}
use Rattle.std.specs.Option.{is_some}
use Rattle.atn.specs.Reading.{Rec}
use Rattle.atn.specs.Tags as tags
use Rattle.record_views.specs.View.{fetched}
use Rattle.record_views.specs.declared.Record.{Record}
use Rattle.screen_text.specs.declared.Direction.{Direction}
use Rattle.screen_text.specs.declared.Direction.TheVariants.{Down, Up}
use Rattle.phrases.specs.Phrases.{phrase_of, line_of}
use Rattle.element_kinds.specs.Kinds.{kind_of}
use Rattle.screen_elements.specs.Lines.{element_line}

-- whose elements follow a record: 0 the aircraft's, any other the ground's. A carried message's bit is 0 for the ground's
unfoldable pub direction : ℕ → Record → ℕ
direction d x = cond (eqb x.tag tags.direction) x.value (cond (eqb x.tag tags.carried_direction) (cond (eqb x.value 0) 1 0) d)

-- the number of a direction
abbrev pub number : Direction → ℕ
number Down = 0
number Up = 1

-- "a lent byte table per direction"
unfoldable pub table_of : List ℕ → List ℕ → ℕ → List ℕ
table_of down up d = cond (eqb d 0) down up

---------------------------------------------------------------- every element has a phrase

unfoldable pub one_phrased : List ℕ → Record → Bool
one_phrased table x = cond (eqb x.tag tags.element_index) (is_some (phrase_of table x.value)) true

unfoldable pub phrased : List ℕ → List ℕ → ℕ → List Rec → Bool
phrased down up d [] = true
phrased down up d (x ∷ R) = one_phrased (table_of down up (direction d (fetched x))) (fetched x) && phrased down up (direction d (fetched x)) R

---------------------------------------------------------------- the lines

-- the line of an element: its index, and the records behind it
unfoldable pub index_line : List ℕ → ℕ → List Rec → List ℕ
index_line table index R = element_line (line_of table index) (kind_of R) R ++ 10 ∷ []

-- how many elements may still come behind a record
unfoldable pub left_after : ℕ → Record → ℕ
left_after n x = cond (eqb x.tag tags.element_index) (n - 1) n

-- what a record adds: only those that begin an element do
unfoldable pub record_line : ℕ → List ℕ → Record → List Rec → List ℕ
record_line n table x R = cond (eqb x.tag tags.element_index) (cond (eqb n 0) [] (index_line table x.value R)) []

-- the lines of at most n elements: no message has more than 8
unfoldable pub lines : List ℕ → List ℕ → ℕ → ℕ → List Rec → List ℕ
lines down up n d [] = []
lines down up n d (x ∷ R) = record_line n (table_of down up (direction d (fetched x))) (fetched x) R ++ lines down up (left_after n (fetched x)) (direction d (fetched x)) R

---------------------------------------------------------------- bounds, so that no count wraps

-- the bytes of a line at most, with a table below 2^44 bytes
abbrev pub most : ℕ
most = 17592186045441

unfoldable pub cost : ℕ → Record → ℕ
cost n x = (n - left_after n x) * most
