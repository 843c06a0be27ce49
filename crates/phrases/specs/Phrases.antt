-- Phrases: "a lent byte table per direction, one a line in index order", and the phrase "with its brackets filled as `fill_phrase` does, unclosed brackets too".
use Rattle.std.specs.Prelude.{cond, Option, None, Some, List, [], ◌∷◌, ◌++◌, ℕ, zero, suc, ◌+◌, length, take, drop, ltb, eqb}

-- the place of the first c, and the length where there is none
unfoldable pub place : ℕ → List ℕ → ℕ
place c [] = 0
place c (x ∷ t) = cond (eqb x c) 0 (suc (place c t))

-- line i, its line feed (10) left out; a last line without one counts if it is not empty
unfoldable pub phrase_of : List ℕ → ℕ → Option (List ℕ)
phrase_of t zero = cond (eqb (length t) 0) None (Some (take (place 10 t) t))
phrase_of t (suc i) = phrase_of (drop (place 10 t + 1) t) i

-- line i, and nothing where there is none
unfoldable pub or_nothing : Option (List ℕ) → List ℕ
or_nothing None = []
or_nothing (Some l) = l

unfoldable pub line_of : List ℕ → ℕ → List ℕ
line_of t i = or_nothing (phrase_of t i)

-- where the first bracket `[` (91) is closed, by the next `]` (93) behind it; the length where there is none
unfoldable pub close : List ℕ → ℕ
close p = place 91 p + place 93 (drop (place 91 p) p)

-- `fill_phrase`: each bracket that is closed takes the next value; behind the last value, or from an unclosed bracket on, the phrase is as it is
unfoldable pub fill : List (List ℕ) → List ℕ → List ℕ
fill [] p = p
fill (v ∷ vs) p = cond (ltb (close p) (length p)) (take (place 91 p) p ++ v ++ fill vs (drop (close p + 1) p)) p
