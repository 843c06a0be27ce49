-- What is badly formed, seen without words.
use Rattle.std.specs.Prelude.{◌≡◌, List, [], ℕ}
use Rattle.atn.specs.Reading.{Ans}
use Rattle.cursor.specs.declared.place.Cursor.{Cursor}
use Rattle.runs.specs.declared.At.{At}
use Rattle.runs.specs.Runs.{Runs}

-- the reading k from the cursor c on is badly formed: run behind n records without a word for its own, it stops with 5
pub record Fails (b : ℕ) (k : ℕ → ℕ → Ans) (s : List ℕ) (c : Cursor) (n : ℕ) : Type 0 where
  pub to : At
  pub run : Runs b k s c n [] [] to
  pub badly : to.c.why ≡ 5
