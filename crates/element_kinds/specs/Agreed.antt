-- An index has one type of argument in the lent table. An argument that cannot be read ends the elements, and no clearance follows.
use Rattle.std.specs.Prelude.{Bool, true, false, cond, ◌&&◌, List, [], ◌∷◌, ℕ, eqb}
use Rattle.atn.specs.Reading.{Rec}
use Rattle.atn.specs.Tags as tags
use Rattle.record_views.specs.View.{fetched}
use Rattle.screen_records.specs.Fields.{tag}
use Rattle.element_kinds.specs.Kinds.{kind_of}

-- nothing follows of which a failed argument would have been the end, by the tag that follows
unfoldable pub is_last : ℕ → Bool
is_last t = cond (eqb t tags.element_index) false (cond (eqb t tags.clearance) false true)

-- an argument of kind k where the index had one of kind `kind`: the same, or none at the end
unfoldable pub kind_agrees : ℕ → ℕ → ℕ → Bool
kind_agrees kind k t = cond (eqb k kind) true (cond (eqb k 0) (is_last t) false)

-- a record, and those behind it: if it begins an element of this index
unfoldable pub one_agrees : ℕ → ℕ → Rec → List Rec → Bool
one_agrees index kind x R = cond (eqb (fetched x).tag tags.element_index) (cond (eqb (fetched x).value index) (kind_agrees kind (kind_of R) (tag R 0)) true) true

unfoldable pub later_agree : ℕ → ℕ → List Rec → Bool
later_agree index kind [] = true
later_agree index kind (x ∷ R) = one_agrees index kind x R && later_agree index kind R

-- an element, with all that follow
unfoldable pub element_agrees : Rec → List Rec → Bool
element_agrees x R = cond (eqb (fetched x).tag tags.element_index) (later_agree (fetched x).value (kind_of R) R) true

unfoldable pub agreed : List Rec → Bool
agreed [] = true
agreed (x ∷ R) = element_agrees x R && agreed R
