-- What a function that reads and tells has done.
use Rattle.std.specs.Prelude.{◌≡◌, Bool, true, false, List, [], ℕ, ◌≤◌}
use Rattle.atn.specs.Format.{Why, quit}
use Rattle.atn.specs.Reading.{Rec, Ans, ok, past, stop, or, mark}
use Rattle.cursor.specs.declared.place.Cursor.{Cursor}
use Rattle.cursor.specs.Place.{number, put, Inside}
use Rattle.records.specs.Told.{Told}
use Rattle.runs.specs.declared.At.{At}

-- given up: 9 where the bits left count, else 8
abbrev pub given : Bool → ℕ
given true = 9
given false = 8

-- how the reading k led from the cursor c to the cursor d, with the records R; of a reading that passed the end the cursor does not keep how many bits were lacked, since no message is read on behind one
pub data Ran (k : ℕ → ℕ → Ans) (c d : Cursor) (R : List Rec) : Type 0 where
  stayed : (c.why ≡ 0 → ⊥) → d ≡ c → R ≡ [] → Ran k c d R
  went : (p m : ℕ) → c.why ≡ 0 → k c.end c.at ≡ ok p R m → p ≤ c.end → d ≡ put c p 0 (or c.marks m) → Ran k c d R
  passed : (l p m : ℕ) → c.why ≡ 0 → k c.end c.at ≡ past l p R m → p ≤ c.end → d ≡ put c p 7 (or c.marks m) → Ran k c d R
  gave_up : (o j : Bool) (t p m : ℕ) → c.why ≡ 0 → k c.end c.at ≡ stop (quit o j t) p R m → p ≤ c.end → d ≡ put c p (given j) (or c.marks (or (mark t) m)) → Ran k c d R
  failed : (w : Why) (p m : ℕ) (S : List Rec) → (number w ≡ 0 → ⊥) → c.why ≡ 0 → k c.end c.at ≡ stop w p S m → p ≤ c.end → d ≡ put c p (number w) (or c.marks m) → Ran k c d R

-- the reading k was run from c, with n records before: at most b records were told
pub record Runs (b : ℕ) (k : ℕ → ℕ → Ans) (s : List ℕ) (c : Cursor) (n : ℕ) (w w' : List ℕ) (r : At) : Type 0 where
  pub recs : List Rec
  pub ran : Inside s c → Ran k c r.c recs
  pub told : Told b w w' n r.n recs
