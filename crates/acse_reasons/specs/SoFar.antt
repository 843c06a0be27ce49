-- What a reading came to that can only run out. Its records so far count then too, so they are known at every place.
use Rattle.std.specs.Prelude.{◌≡◌, ℕ, ◌/◌, cond, List, ◌++◌, ◌==◌}
use Rattle.x691.specs.Bits.{bit_of}
use Rattle.atn.specs.Format.{Fmt, out}
use Rattle.atn.specs.Reading.{Rec, Ans, ok, stop, then, read}
use Rattle.cursor.specs.declared.place.Cursor.{Cursor}
use Rattle.cursor.specs.Place.{Inside}

-- the answer so far, at the cursor and with these records; the cursor has 16 times the bits lacked
unfoldable pub so_far : Cursor → List Rec → Ans
so_far c R = cond (c.why == 0) (ok c.at R c.marks) (stop (out (c.why / 16)) c.at R c.marks)

-- the reading k, a function of the window's end and the place, led from the cursor c to the cursor d and told R
pub record Grew (k : ℕ → ℕ → Ans) (s : List ℕ) (c d : Cursor) (R : List Rec) : Type 0 where
  pub inside : Inside s d
  pub window : d.end ≡ c.end
  pub gives : (Q : List Rec) → then (so_far c Q) (λ p. k c.end p) ≡ so_far d (Q ++ R)

pub record Grows (k : ℕ → ℕ → Ans) (s : List ℕ) (c d : Cursor) (R : List Rec) : Type 0 where
  pub grew : Inside s c → Grew k s c d R

-- the format f, outside elements
pub record Keeps (f : Fmt) (s : List ℕ) (c d : Cursor) (R : List Rec) : Type 0 where
  pub grows : Grows (λ u p. read f (0, 0) (bit_of s) u p) s c d R
