-- The records of a name, by their tags and the element that they stand in.
use Rattle.std.specs.Prelude.{List, [], ◌∷◌, ℕ}
use Rattle.atn.specs.Reading.{Rec, rec}
use Rattle.atn.specs.Tags as tag
use Rattle.enumerations.specs.declared.Name.{Name}
use Rattle.enumerations.specs.declared.Triple.{Triple}

abbrev pub name_recs : ℕ → Name → ℕ → List Rec
name_recs t v n = rec t n v.value v.second v.at ∷ []

abbrev pub triple_recs : Triple → ℕ → List Rec
triple_recs v n =
    rec tag.speed_type n v.first.value v.first.second v.first.at ∷ rec tag.speed_type n v.second.value v.second.second v.second.at
    ∷ rec tag.speed_type n v.third.value v.third.second v.third.at ∷ []
