-- What a text is: the format's reading, whatever its tag, and where its characters are.
use Rattle.std.specs.Prelude.{◌≡◌, Bool, true, false, List, [], ℕ, ◌+◌, ◌*◌, ◌^◌, ◌≤◌, ◌<◌, length}
use Rattle.x691.specs.Bits.{bit_of}
use Rattle.atn.specs.Format.{text, first, numeric}
use Rattle.atn.specs.Reading.{Rec, Ans, ok, pack, lettered, units, letters, sized}
use Rattle.cursor.specs.declared.place.Cursor.{Cursor}
use Rattle.cursor.specs.declared.place.Got.{Got}
use Rattle.field_ranges.specs.declared.table.Range.{Range}
use Rattle.character_strings.specs.declared.Text.{Text}
use Rattle.cursor.specs.Place.{Inside, Reads, Takes}
use Rattle.field_ranges.specs.Ranges.{Listed}
use Rattle.field_ranges.specs.Ends.{lowest, highest}

-- the records of a text of seven-bit characters, and those of a channel's digits, by where the field starts and the place and the number of the characters
unfoldable pub text_recs : ℕ → ℕ → List ℕ → Text → List Rec
text_recs t n s x = pack t n x.from (units (bit_of s) 7 x.at x.len)

unfoldable pub channel_recs : ℕ → ℕ → ℕ → List ℕ → Text → List Rec
channel_recs t u n s x = lettered t (numeric u) n x.from (units (bit_of s) 4 x.at x.len)

-- the characters, of w bits each, are in the frame, and so are their places in a word
pub record InFrame (w : ℕ) (s : List ℕ) (x : Text) : Type 0 where
  pub there : x.at + x.len * w ≤ length s * 8
  pub fits : x.at + x.len * w < 2 ^ 64

-- a row of sizes, none of them zero, the highest at most 256
pub record SizeRow (r : Range) : Type 0 where
  pub listed : Listed r
  pub some : 1 ≤ r.lo
  pub ordered : r.lo ≤ r.hi
  pub most : r.hi ≤ 256

pub record Texts (k : ℕ) (s : List ℕ) (c : Cursor) (r : Got Text) : Type 0 where
  pub text : (t : ℕ) → Takes (text t 128 (first 0) (lowest k) (highest k)) s c r.c (λ n. text_recs t n s r.v)
  -- whatever was read
  pub few : r.v.len < 512
  pub held : InFrame 7 s r.v

pub record Channel (s : List ℕ) (c : Cursor) (r : Got Text) : Type 0 where
  pub channel : (t u : ℕ) → Takes (text t 11 (numeric u) 12 12) s c r.c (λ n. channel_recs t u n s r.v)
  -- whatever was read
  pub few : r.v.len ≤ 12
  pub held : InFrame 4 s r.v

-- what follows the size, for any reading that goes on from it
pub record Sized (k : ℕ) (s : List ℕ) (c : Cursor) (g : Got ℕ) : Type 0 where
  pub size : (K : ℕ → ℕ → ℕ → Ans) {d : Cursor} {R : List Rec} → Reads (λ e p. K g.v e p) s g.c d R → Reads (λ e p. sized (bit_of s) e p (lowest k) (highest k) (λ n q. K n e q)) s c d R
  -- whatever was read
  pub least : lowest k ≤ g.v
  pub few : g.v < 512

---------------------------------------------------------------- the parts of a text

-- a test whether n bits are ahead
pub record Ahead (s : List ℕ) (c : Cursor) (n : ℕ) (r : Bool) : Type 0 where
  pub goes : r ≡ true → c.why ≡ 0
  pub room : r ≡ true → c.at + n ≤ c.end
  pub held : r ≡ true → c.end ≤ length s * 8
  pub short : r ≡ false → Inside s c → c.why ≡ 0 → c.end < c.at + n

-- so many characters of seven bits, whatever is told of them
pub record Passed (n : ℕ) (s : List ℕ) (c : Cursor) (r : Got Text) : Type 0 where
  pub characters : (T : ℕ → ℕ → List Rec) → Reads (λ e p. letters (bit_of s) e 7 128 n p (λ q. ok q (T p n) 0)) s c r.c (T r.v.at r.v.len)
  pub few : r.v.len ≤ n
  pub held : InFrame 7 s r.v

-- so many digits
pub record Digits (n : ℕ) (s : List ℕ) (c d : Cursor) : Type 0 where
  pub digits : Reads (λ e p. letters (bit_of s) e 4 11 n p (λ q. ok q [] 0)) s c d []
