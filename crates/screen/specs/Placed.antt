-- Where the fields of a list begin, by the fifth words of its records.
use Rattle.std.specs.Prelude.{Bool, not, ◌&&◌, ◌||◌, List, [], ◌∷◌, ℕ, leb}
use Rattle.atn.specs.Reading.{Rec, rec}
use Rattle.record_lists.specs.Kinds.{span_tag}
use Rattle.record_views.specs.View.{fetched}

-- the bit of the frame where a record's field begins
abbrev pub place : Rec → ℕ
place (rec t m v s q) = q

-- the bits of a span begin no earlier than its field
unfoldable pub begins : Rec → Bool
begins x = not (span_tag (fetched x).tag) || leb (place x) (fetched x).value

-- "For one frame the fifth words never fall from one record to the next": none is below the one before it, the first not below lo, and the last is within the 524,288 bits of the longest frame
unfoldable pub placed : ℕ → List Rec → Bool
placed lo [] = leb lo 524288
placed lo (x ∷ R) = leb lo (place x) && (begins x && placed (place x) R)
