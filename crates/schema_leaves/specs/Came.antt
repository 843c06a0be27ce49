-- What is owed by a function that reads a part and tells it.
use Rattle.std.specs.Prelude.{◌≡◌, ℕ, ◌*◌, ◌%◌, ◌^◌, ◌<◌, ◌≤◌, List, length, ◌≢◌}
use Rattle.atn.specs.Format.{Why, out, bad, lack, quit}
use Rattle.atn.specs.Reading.{Rec, Ans, ok, stop, or}
use Rattle.cursor.specs.Place.{put, Inside}
use Rattle.schema_tables.specs.Entry.{top}
use Rattle.capped_records.specs.Place.{counted, place}
use Rattle.schema_leaves.specs.declared.Step.{Step}

-- the reading goes on inside the frame
pub record Open (s : List ℕ) (a : Step) : Type 0 where
  pub goes : a.c.why ≡ 0
  pub inside : Inside s a.c
  pub short : length s * 8 < 2 ^ 32
  pub few : a.n ≤ top

-- document 01's number of a reading that stopped, and the bits that it lacked: up to 2^64 - 1 of them, more than a cursor can say
abbrev pub refusal : Why → ℕ
refusal (out k) = 4
refusal bad = 5
refusal lack = 6
refusal (quit o j m) = 0

abbrev pub lacked : Why → ℕ
lacked (out k) = k
lacked bad = 0
lacked lack = 0
lacked (quit o j m) = 0

-- An answer x of the reading was come to from a: the cursor is the answer's, and the words w are w' with its records. Where the reading stopped the bits lacked stand in the place of the number of records, and nothing is said of marks and records.
pub data Came (x : Ans) (a : Step) (w : List ℕ) (z : Step) (w' : List ℕ) : Type 0 where
  went : (p m : ℕ) (R : List Rec) → x ≡ ok p R m → p ≤ a.c.end → z.c ≡ put a.c p 0 (or a.c.marks m) → z.n ≡ counted a.n (length R) → w' ≡ place w a.n R → Came x a w z w'
  failed : (y : Why) (p m : ℕ) (S : List Rec) → (refusal y ≢ 0) → x ≡ stop y p S m → p ≤ a.c.end → z.c.why % 16 ≡ refusal y → z.n ≡ lacked y → z.c.at ≡ p → length w' ≡ length w → Came x a w z w'

-- records were told behind n others: then there are m
pub record Placed (w w' : List ℕ) (n m : ℕ) (R : List Rec) : Type 0 where
  pub count : m ≡ counted n (length R)
  pub words : w' ≡ place w n R
