-- What giving up a clearance leaves.
use Rattle.std.specs.Prelude.{◌≡◌, ◌%◌, ◌≤◌}
use Rattle.atn.specs.Reading.{or, mark}
use Rattle.cursor.specs.declared.place.Cursor.{Cursor}
use Rattle.cursor.specs.Place.{put}

-- ran out and badly formed are given up: 9, the bits left count, mark 7; all else stays
pub record Excused (c d : Cursor) : Type 0 where
  pub given : 4 ≤ c.why % 16 → c.why % 16 ≤ 5 → d ≡ put c c.at 9 (or c.marks (mark 7))
  pub kept : (4 ≤ c.why % 16 → c.why % 16 ≤ 5 → ⊥) → d ≡ c
