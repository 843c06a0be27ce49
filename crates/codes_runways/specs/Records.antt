-- The records of a code and of a runway, by their tags and the element that they stand in.
use Rattle.std.specs.Prelude.{List, [], ◌∷◌, ℕ}
use Rattle.atn.specs.Reading.{Rec, rec}
use Rattle.atn.specs.Tags as tag
use Rattle.codes_runways.specs.declared.Code.{Code}
use Rattle.codes_runways.specs.declared.Runway.{Runway}

abbrev pub code_recs : Code → ℕ → List Rec
code_recs v n =
    rec tag.code_digit n v.first 0 v.first_at ∷ rec tag.code_digit n v.second 0 v.second_at ∷ rec tag.code_digit n v.third 0 v.third_at
    ∷ rec tag.code_digit n v.fourth 0 v.fourth_at ∷ []

-- tags of the direction and the side
abbrev pub runway_recs : ℕ → ℕ → Runway → ℕ → List Rec
runway_recs t u v n = rec t n v.direction 0 v.direction_at ∷ rec u n v.side 0 v.side_at ∷ []
