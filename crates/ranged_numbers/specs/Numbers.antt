-- What a number of a row, or a name of it, is: the format's reading, whatever its tag.
use Rattle.std.specs.Prelude.{◌≡◌, ℕ, zero, suc, ◌+◌, List, [], ◌∷◌}
use Rattle.x691.specs.Types.{extent}
use Rattle.atn.specs.Format.{num, name, Alts, ◌∥◌}
use Rattle.atn.specs.Reading.{rec, word, over}
use Rattle.cursor.specs.declared.place.Cursor.{Cursor}
use Rattle.cursor.specs.declared.place.Got.{Got}
use Rattle.cursor.specs.Place.{marked, Takes}
use Rattle.field_ranges.specs.declared.table.Range.{Range}
use Rattle.field_ranges.specs.Ends.{lowest, highest}

-- the number that is v above the lowest of a range, told by the cursor b; above the range with mark 1
pub record FromLowest (r : Range) (b : Cursor) (v : ℕ) (g : Got ℕ) : Type 0 where
  pub number : g.v ≡ word (r.lo + v)
  pub marks : g.c ≡ marked b (over (extent r.lo r.hi) v)

pub record Ranged (k : ℕ) (s : List ℕ) (c : Cursor) (g : Got ℕ) : Type 0 where
  pub number : (t : ℕ) → Takes (num t (lowest k) (highest k)) s c g.c (λ n. rec t n g.v 0 c.at ∷ [])

pub record Named (k : ℕ) (s : List ℕ) (c : Cursor) (g : Got ℕ) : Type 0 where
  pub name : (t : ℕ) → Takes (name t (highest k)) s c g.c (λ n. rec t n g.v 0 c.at ∷ [])

-- n numbers with one tag, from the row k on, and then others
abbrev pub rows_then : ℕ → ℕ → ℕ → Alts → Alts
rows_then t k zero fs = fs
rows_then t k (suc n) fs = num t (lowest k) (highest k) ∥ rows_then t (suc k) n fs
