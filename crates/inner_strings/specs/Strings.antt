-- An inner string: its length, and the bits behind it.
use Rattle.std.specs.Prelude.{◌≡◌, List, ℕ, ◌+◌, ◌*◌, ◌/◌, ◌%◌, ◌≤◌, ◌<◌, length}
use Rattle.cursor.specs.declared.place.Cursor.{Cursor}
use Rattle.cursor.specs.declared.place.Got.{Got}
use Rattle.length_determinants.specs.Lengths.{Measures, Passes}
use Rattle.inner_strings.specs.declared.Inner.{Inner}
use Rattle.inner_strings.specs.declared.Inner.TheVariants.{Lost, Found}

-- the reading stops before the string's end; where it would not, the frame does not hold the string, to which no cursor in the frame comes
pub record Lacks (s : List ℕ) (c d : Cursor) : Type 0 where
  pub length_read : Got ℕ
  pub behind : Cursor
  pub measures : Measures s c length_read
  pub passes : Passes length_read.c length_read.v behind
  pub stops : d.why ≡ 0 → ⊥
  pub same : (behind.why ≡ 0 → ⊥) → d ≡ behind
  pub off : behind.why ≡ 0 → length s * 8 < length_read.c.at + length_read.v

-- its bits stand in the bytes from..to, where they are the window, and d stands behind them
pub record Has (s : List ℕ) (c : Cursor) (from to : ℕ) (window d : Cursor) : Type 0 where
  pub length_read : Got ℕ
  pub measures : Measures s c length_read
  pub passes : Passes length_read.c length_read.v d
  pub goes : d.why ≡ 0
  pub first_byte : from ≡ length_read.c.at / 8
  pub last_byte : to ≡ (length_read.c.at + length_read.v + 7) / 8
  pub bits : window ≡ record { at = length_read.c.at % 8; end = length_read.c.at % 8 + length_read.v; why = 0; marks = d.marks }
  -- what a caller needs to lend them
  pub ordered : from ≤ to
  pub held : to ≤ length s

abbrev pub Strings : List ℕ → Cursor → Inner → Type 0
Strings s c (Lost d) = Lacks s c d
Strings s c (Found from to window d) = Has s c from to window d
