-- Where a reader starts, and what it takes.
use Rattle.std.specs.Prelude.{◌≡◌, cond, List, ℕ, ◌*◌, length, leb}
use Rattle.cursor.specs.declared.place.Cursor.{Cursor}
use Rattle.cursor.specs.declared.place.Got.{Got}
use Rattle.cursor.specs.Place.{Inside, Pulls, stopped}

-- the place `at` of a frame, in a window that is the whole frame; a frame over 65,536 bytes is refused: 1
abbrev pub opened : List ℕ → ℕ → Cursor
opened s at = cond (leb (length s) 65536) (record { at = at; end = length s * 8; why = 0; marks = 0 }) (record { at = at; end = 0; why = 1; marks = 0 })

-- n bits were taken as the cursor pulls them. The number is 0 where they are not there, and a cursor that is not in its frame runs out.
pub record Took (s : List ℕ) (c : Cursor) (n : ℕ) (g : Got ℕ) : Type 0 where
  pub pulls : Pulls s c n g
  pub none : (g.c.why ≡ 0 → ⊥) → g.v ≡ 0
  pub astray : (Inside s c → ⊥) → g.c ≡ stopped c 4 0
