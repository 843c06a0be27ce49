-- The records of a quantity, by their tags and the element that they stand in.
use Rattle.std.specs.Prelude.{List, [], ◌∷◌, ℕ}
use Rattle.atn.specs.Reading.{Rec, rec}
use Rattle.quantities.specs.declared.Quantity.{Quantity}

-- tags of the kind and the number
abbrev pub quantity_recs : ℕ → ℕ → Quantity → ℕ → List Rec
quantity_recs t u v n = rec t n v.kind 0 v.kind_at ∷ rec u n v.number 0 v.number_at ∷ []
