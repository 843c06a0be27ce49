-- What is left of a reading inside an inner string, for the window around it.
use Rattle.std.specs.Prelude.{List, cond, ℕ, ◌%◌, eqb}
use Rattle.atn.specs.Reading.{Ans, Rec, or, unless}
use Rattle.cursor.specs.declared.place.Cursor.{Cursor}
use Rattle.cursor.specs.Place.{put, Reads}
use Rattle.records.specs.Told.{Told}
use Rattle.runs.specs.declared.At.{At}

-- running past the end of an inner string is never 4; what was given up or passed over is accepted
unfoldable pub closed_why : ℕ → ℕ
closed_why w = cond (eqb (w % 16) 4) 5 (cond (eqb w 5) 5 (cond (eqb w 6) 6 0))

-- mark 7 past the end, mark 6 for bits left where they count
unfoldable pub closed_marks : Cursor → ℕ
closed_marks r = cond (eqb r.why 7) (or (or r.marks 64) (unless (eqb r.at r.end) 6)) (cond (eqb r.why 0) (or r.marks (unless (eqb r.at r.end) 6)) (cond (eqb r.why 9) (or r.marks (unless (eqb r.at r.end) 6)) r.marks))

-- d stands behind the string, r where the reading inside it ended
unfoldable pub closed : Cursor → Cursor → Cursor
closed d r = put d d.at (closed_why r.why) (closed_marks r)

-- the reading k was made from c, with n records before: at most b records were told
pub record Tells (b : ℕ) (k : ℕ → ℕ → Ans) (s : List ℕ) (c : Cursor) (n : ℕ) (w w' : List ℕ) (r : At) : Type 0 where
  pub recs : List Rec
  pub reads : Reads k s c r.c recs
  pub told : Told b w w' n r.n recs
