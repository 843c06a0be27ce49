-- The number of the clearances of the constrained data.
use Rattle.std.specs.Prelude.{List, [], ℕ, ◌+◌, ◌≤◌}
use Rattle.x691.specs.Bits.{bit_of}
use Rattle.atn.specs.Reading.{Ans, ok, then, fork, mark, pull, sized}
use Rattle.cursor.specs.declared.place.Cursor.{Cursor}
use Rattle.cursor.specs.declared.place.Got.{Got}
use Rattle.cursor.specs.Place.{Inside}
use Rattle.runs.specs.declared.At.{At}
use Rattle.runs.specs.Runs.{Runs}

-- what follows the number of the clearances: none behind a set extension bit, nor where they are absent
unfoldable pub count_then : (ℕ → ℕ) → ℕ → ℕ → (ℕ → ℕ → Ans) → Ans
count_then b e at k =
    pull b e at 1 λ x.
    fork x (pull b e (at + 1) 1 λ h. fork h (k 0 (at + 1 + 1)) (sized b e (at + 1 + 1) 1 2 k))
    (then (ok (at + 1) [] (mark 2)) λ p. k 0 p)

pub record Counts (s : List ℕ) (c : Cursor) (g : Got ℕ) : Type 0 where
  pub then : (K : ℕ → ℕ → ℕ → Ans) {b n : ℕ} {w w' : List ℕ} {r : At} → Runs b (λ e p. K g.v e p) s g.c n w w' r → Runs b (λ e p. count_then (bit_of s) e p (λ m q. K m e q)) s c n w w' r
  pub few : g.v ≤ 2
  pub inside : Inside s c → Inside s g.c
