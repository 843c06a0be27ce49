-- What a list of records shows: of a span not where its bits are, but which they are; of no record the bit where its field starts.
-- "Spans may move but show the same bits", and the writer "ignores the fifth word".
use Rattle.std.specs.Prelude.{Bool, true, cond, not, ◌&&◌, ◌||◌, List, [], ◌∷◌, ℕ, ◌+◌, leb}
use Rattle.x691.specs.Bits.{stretch}
use Rattle.atn.specs.Reading.{Rec, rec}

pub data Item : Type 0 where
  -- a record but for its fifth word: tag, element number, value, second number
  plain : ℕ → ℕ → ℕ → ℕ → Item
  -- a span: tag, element number, its bits
  bits : ℕ → ℕ → List ℕ → Item

unfoldable pub tag_of : Item → ℕ
tag_of (plain t m v s) = t
tag_of (bits t m xs) = t

-- sp says which tags are those of spans, b are the bits that these point into
unfoldable pub look : (ℕ → Bool) → (ℕ → ℕ) → List Rec → List Item
look sp b [] = []
look sp b (rec t m v s q ∷ R) = cond (sp t) (bits t m (stretch b v s)) (plain t m v s) ∷ look sp b R

-- no span goes past the e bits that there are
unfoldable pub inside : (ℕ → Bool) → ℕ → List Rec → Bool
inside sp e [] = true
inside sp e (rec t m v s q ∷ R) = (not (sp t) || leb (v + s) e) && inside sp e R

-- the records with no word of where their fields start
unfoldable pub unplaced : List Rec → List Rec
unplaced [] = []
unplaced (rec t m v s q ∷ R) = rec t m v s 0 ∷ unplaced R
