-- What it is that a function read from a cursor.
use Rattle.std.specs.Prelude.{◌≡◌, ℕ, ◌+◌, ◌-◌, ◌*◌, ◌<◌, ◌≤◌, cond, List, length, ◌==◌, ◌≢◌}
use Rattle.x691.specs.Bits.{bit_of, uint}
use Rattle.atn.specs.Format.{Fmt, Why, out, bad, lack, quit}
use Rattle.atn.specs.Reading.{Rec, Ctx, Ans, ok, stop, or, read}
use Rattle.cursor.specs.declared.place.Cursor.{Cursor}
use Rattle.cursor.specs.declared.place.Got.{Got}

-- document 01's number, and 16 times the bits lacked where it ran out
abbrev pub number : Why → ℕ
number (out k) = 4 + 16 * k
number bad = 5
number lack = 6
number (quit o j m) = 0

-- the cursor in the same window, at another place, with another reason to stop and other marks
abbrev pub put : Cursor → ℕ → ℕ → ℕ → Cursor
put c p w m = record { at = p; end = c.end; why = w; marks = m }

unfoldable pub stopped : Cursor → ℕ → ℕ → Cursor
stopped c w m = cond (c.why == 0) (put c c.at w (or c.marks m)) c

unfoldable pub marked : Cursor → ℕ → Cursor
marked c m = stopped c 0 m

-- the window is in the frame, and the cursor in the window
abbrev pub Inside : List ℕ → Cursor → Type 0
Inside s c = (c.at ≤ c.end) × (c.end ≤ length s * 8)

-- What n bits gave: nothing behind a failure; ran out without moving, with the bits lacked; or the number.
pub data Pulled (s : List ℕ) (c : Cursor) (n : ℕ) (g : Got ℕ) : Type 0 where
  stuck : (c.why ≢ 0) → g.c ≡ c → Pulled s c n g
  short : c.why ≡ 0 → c.end < c.at + n → g.c ≡ put c c.at (number (out (c.at + n - c.end))) c.marks → Pulled s c n g
  got : c.why ≡ 0 → c.at + n ≤ c.end → g.v ≡ uint (bit_of s) c.at n → g.c ≡ put c (c.at + n) 0 c.marks → Pulled s c n g

pub record Pulls (s : List ℕ) (c : Cursor) (n : ℕ) (g : Got ℕ) : Type 0 where
  pub gave : Inside s c → Pulled s c n g

-- What n presence bits gave: as above, but they are taken one after another, so that what is there of them counts, and the next lacks its one bit.
pub data Opened (s : List ℕ) (c : Cursor) (n : ℕ) (g : Got ℕ) : Type 0 where
  shut_already : (c.why ≢ 0) → g.c ≡ c → Opened s c n g
  ran_short : c.why ≡ 0 → c.end < c.at + n → g.c ≡ put c c.end (number (out 1)) c.marks → Opened s c n g
  opened : c.why ≡ 0 → c.at + n ≤ c.end → g.v ≡ uint (bit_of s) c.at n → g.c ≡ put c (c.at + n) 0 c.marks → Opened s c n g

pub record Opens (s : List ℕ) (c : Cursor) (n : ℕ) (g : Got ℕ) : Type 0 where
  pub gave : Inside s c → Opened s c n g

-- How a reading k, a function of the window's end and the place, led from the cursor c to the cursor d, with the records R:
-- a cursor that had stopped stays; else the reading's answer is the cursor's.
pub data Led (k : ℕ → ℕ → Ans) (c d : Cursor) (R : List Rec) : Type 0 where
  stayed : (c.why ≢ 0) → d ≡ c → Led k c d R
  went : (p m : ℕ) → c.why ≡ 0 → k c.end c.at ≡ ok p R m → p ≤ c.end → d ≡ put c p 0 (or c.marks m) → Led k c d R
  failed : (w : Why) (p m : ℕ) (S : List Rec) → (number w ≢ 0) → c.why ≡ 0 → k c.end c.at ≡ stop w p S m → p ≤ c.end → d ≡ put c p (number w) (or c.marks m) → Led k c d R

pub record Reads (k : ℕ → ℕ → Ans) (s : List ℕ) (c d : Cursor) (R : List Rec) : Type 0 where
  pub led : Inside s c → Led k c d R

-- the format f was read, and its records are those that T tells of an element
pub record Takes (f : Fmt) (s : List ℕ) (c d : Cursor) (T : ℕ → List Rec) : Type 0 where
  pub took : (x : Ctx) → Reads (λ e p. read f x (bit_of s) e p) s c d (T x.0)
