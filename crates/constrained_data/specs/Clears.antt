-- So many clearances, each of which may be given up.
use Rattle.std.specs.Prelude.{◌≡◌, List, ℕ, ◌%◌}
use Rattle.x691.specs.Bits.{bit_of}
use Rattle.cursor.specs.declared.place.Cursor.{Cursor}
use Rattle.cursor.specs.Place.{Inside}
use Rattle.runs.specs.declared.At.{At}
use Rattle.runs.specs.Runs.{Runs}
use Rattle.clearances.specs.Attempts.{attempts}

-- so many were run; none of them ends as ran out or badly formed
pub record Clears (b m : ℕ) (s : List ℕ) (c : Cursor) (n : ℕ) (w w' : List ℕ) (r : At) : Type 0 where
  pub runs : Runs b (λ e p. attempts (bit_of s) m e p) s c n w w' r
  pub ends : Inside s c → (r.c.why % 16 ≡ 4 → ⊥) × (r.c.why ≡ 5 → ⊥)
