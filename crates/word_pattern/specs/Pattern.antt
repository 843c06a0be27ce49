-- The pattern of words that no one has written.
use Rattle.std.specs.Prelude.{◌≡◌, List, ℕ, ◌+◌, ◌≤◌, ◌<◌, length, get_or}

-- 5A5A in the highest octets
abbrev pub first : ℕ
first = 6510516211317473280

-- from the place n on each word is the first of the pattern and its own place
pub record Patterned (w : List ℕ) (n : ℕ) : Type 0 where
  pub at : (k : ℕ) → n ≤ k → k < length w → get_or w k 0 ≡ first + k
