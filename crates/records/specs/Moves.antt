-- Records whose places are moved: those of an inner string are told with places in the string's own bytes, which begin further on in the frame.
use Rattle.std.specs.Prelude.{ℕ, zero, suc, ◌+◌, List, [], ◌∷◌, slice_index, slice_set}
use Rattle.atn.specs.Reading.{Rec, rec, word}
use Rattle.records.specs.Space.{size}

-- the places a bits further on, as 64-bit words
unfoldable pub relocated : ℕ → List Rec → List Rec
relocated a [] = []
relocated a (rec t m v s q ∷ R) = rec t m v s (word (a + q)) ∷ relocated a R

-- a word that is a more; behind the end there is none
unfoldable pub raised : ℕ → List ℕ → ℕ → List ℕ
raised a w i = slice_set w i (word (a + slice_index w i))

-- the fifth words of k records whose words begin at the word i
unfoldable pub raised_places : ℕ → ℕ → ℕ → List ℕ → List ℕ
raised_places a zero i w = w
raised_places a (suc k) i w = raised_places a k (i + size) (raised a w (i + 4))
