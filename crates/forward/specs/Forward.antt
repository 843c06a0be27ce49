-- The forward message as a reading, and what is left of it where it fails.
use Rattle.std.specs.Prelude.{◌≡◌, List, ℕ, zero, suc, ◌%◌}
use Rattle.x691.specs.Bits.{bit_of}
use Rattle.atn.specs.Messages.{forward}
use Rattle.atn.specs.Reading.{Ans, or, read}
use Rattle.cursor.specs.declared.place.Cursor.{Cursor}
use Rattle.cursor.specs.Place.{put}

-- what is left of a part that is passed over where it failed
pub record Forgives (c d : Cursor) : Type 0 where
  pub cut : c.why % 16 ≡ 4 → d ≡ put c c.at 7 c.marks
  pub over : c.why ≡ 5 → d ≡ put c c.at 0 (or c.marks 64)
  pub kept : (c.why % 16 ≡ 4 → ⊥) → (c.why ≡ 5 → ⊥) → d ≡ c

-- the table of the carried data, by its direction
unfoldable pub carried_table : ℕ → List ℕ → List ℕ → List ℕ
carried_table zero down up = up
carried_table (suc d) down up = down

unfoldable pub forward_at : List ℕ → List ℕ → List ℕ → ℕ → ℕ → Ans
forward_at down up s e p = read (forward down up) (0, 0) (bit_of s) e p
