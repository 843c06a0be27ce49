-- What a walk over a run owes.
use Rattle.std.specs.Prelude.{◌≡◌, List, [], ◌∷◌, ℕ, length}
use Rattle.message_runs.specs.Runs.{Cutting}
use Rattle.run_starts.specs.declared.Found.{Found}

-- as many of the numbers as fit, at the front of the lent ones
unfoldable pub front : List ℕ → List ℕ → List ℕ
front [] w = w
front (b ∷ bs) [] = []
front (b ∷ bs) (x ∷ w) = b ∷ front bs w

-- the cutting c was found, and the lent numbers, which were w, are w'
pub record Walked (c : Cutting) (r : Found) (w w' : List ℕ) : Type 0 where
  pub count : r.count ≡ length c.starts
  pub until : r.until ≡ c.until
  pub filled : w' ≡ front c.starts w
