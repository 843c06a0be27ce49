-- What is owed by a function that reads and tells with ample room.
use Rattle.std.specs.Prelude.{◌≡◌, ℕ, ◌+◌, ◌≤◌, List, length, take, ◌≢◌}
use Rattle.atn.specs.Format.{Fmt, Flds}
use Rattle.atn.specs.Reading.{Rec}
use Rattle.records.specs.Space.{space}
use Rattle.records.specs.Told.{Told}
use Rattle.ample_bits.specs.Ahead.{Ahead}
use Rattle.ample_readings.specs.declared.Step.{Step}
use Rattle.ample_readings.specs.Sure.{Sure, SureFields}

-- the format f, outside the elements, was read from `at` on, j bits at most, and its records were told behind n others, b at most
pub record Done (b j : ℕ) (f : Fmt) (s : List ℕ) (at n : ℕ) (w w' : List ℕ) (r : Step) : Type 0 where
  pub recs : List Rec
  pub sure : (i : ℕ) → Sure f (0, i) s at r.at recs r.marks
  pub near : r.at ≤ at + j
  pub told : Told b w w' n r.n recs

-- the same of the last fields of a sequence, which have no presence bits
pub record DoneFields (b j : ℕ) (fs : Flds) (s : List ℕ) (at n : ℕ) (w w' : List ℕ) (r : Step) : Type 0 where
  pub recs : List Rec
  pub sure : (i q : ℕ) → SureFields fs (0, i) s q at r.at recs r.marks
  pub near : r.at ≤ at + j
  pub told : Told b w w' n r.n recs

-- or it was given up: the words of the records before stay, those behind them are free
pub record Ample (b j : ℕ) (f : Fmt) (s : List ℕ) (at n : ℕ) (w w' : List ℕ) (r : Step) : Type 0 where
  pub room : length w' ≡ length w
  pub before : take (space n) w' ≡ take (space n) w
  pub done : (r.at ≢ 0) → Done b j f s at n w w' r

-- a format that takes k bits and tells b records, whatever the bits are: at the top of the word v it was read and told, of each frame that has them at `at`
pub record Fixed (b k : ℕ) (f : Fmt) (v at n : ℕ) (w w' : List ℕ) (r : Step) : Type 0 where
  pub done : (s : List ℕ) (j : ℕ) → Ahead s at j v → k ≤ j → Done b k f s at n w w' r
  pub to : r.at ≡ at + k
  pub count : r.n ≡ n + b
