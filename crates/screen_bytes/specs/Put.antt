-- What is owed by a function that puts bytes.
use Rattle.std.specs.Prelude.{◌≡◌, List, ℕ, ◌+◌, ◌≤◌, length}
use Rattle.std.proofs.lemmas.List.Edits.{sets}

-- the bytes l from byte `at` on; those behind the end of w are left out, and all other bytes of w stay
unfoldable pub puts : ℕ → List ℕ → List ℕ → List ℕ
puts at l w = sets w at l

-- The bytes l, at most k of them, were put from byte `at` on: they end before m, and the lent bytes are w' where they were w.
-- Bytes without room count all the same: so lines that are lent no bytes tell how many they have.
pub record Put (k : ℕ) (w w' : List ℕ) (at m : ℕ) (l : List ℕ) : Type 0 where
  pub count : m ≡ at + length l
  -- a bound that callers add up, so that no count wraps
  pub few : m ≤ at + k
  pub bytes : w' ≡ puts at l w
