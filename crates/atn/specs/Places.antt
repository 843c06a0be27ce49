-- Where the fields of records begin, one record after another (document 02, g): "For one frame the fifth words never fall from one record to the next."
use Rattle.std.specs.Prelude.{List, [], ◌∷◌, ℕ, ◌≤◌}
use Rattle.atn.specs.Reading.{Rec, rec}

-- the first place is at least lo, none is below the one before it, and the last is at most hi
unfoldable pub Rising : ℕ → List Rec → ℕ → Type 0
Rising lo [] hi = lo ≤ hi
Rising lo (rec t m v s q ∷ R) hi = (lo ≤ q) × Rising q R hi
