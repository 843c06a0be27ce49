-- What a length determinant, a normally small number, and bits passed over are: the format's reading, whatever follows them.
use Rattle.std.specs.Prelude.{◌≡◌, List, ℕ, suc, ◌+◌, ◌*◌, ◌^◌, ◌≤◌, ◌<◌}
use Rattle.x691.specs.Bits.{bit_of, uint}
use Rattle.atn.specs.Reading.{Rec, Ans, word, fork, pull, lengths, length_then}
use Rattle.cursor.specs.declared.place.Cursor.{Cursor}
use Rattle.cursor.specs.declared.place.Got.{Got}
use Rattle.length_determinants.specs.declared.Head.{Head}
use Rattle.length_determinants.specs.declared.Head.TheVariants.{Last, Part}
use Rattle.cursor.specs.Place.{Inside, Pulls, Reads}

-- n bits were passed over: whatever the frame is, they are as good as pulled
pub record Passes (c : Cursor) (n : ℕ) (r : Cursor) : Type 0 where
  pub pulls : (s : List ℕ) → Pulls s c n (record { v = uint (bit_of s) c.at n; c = r })
  -- in the frame or not
  pub moved : r.why ≡ 0 → r.at ≡ c.at + n

-- n bits, of which something is known where they were not there too
pub record Known (s : List ℕ) (c : Cursor) (n : ℕ) (g : Got ℕ) : Type 0 where
  pub pulls : Pulls s c n g
  pub below : Inside s c → g.v < 2 ^ n
  pub there : 1 ≤ g.v → g.c.why ≡ 0

---------------------------------------------------------------- lengths

-- The last length, n. What follows it, k, follows the lengths too.
pub record Ends (s : List ℕ) (c : Cursor) (n : ℕ) (d : Cursor) : Type 0 where
  pub then : (k : ℕ → ℕ → ℕ → Ans) (g : ℕ) {e : Cursor} {R : List Rec} → Reads (λ u p. k n u p) s d e R → Reads (λ u p. lengths (suc g) (bit_of s) u p (λ m q. k m u q)) s c e R
  pub few : n < 16384

-- A fragment's length, n. Behind it stand the other lengths.
pub record GoesOn (s : List ℕ) (c : Cursor) (n : ℕ) (d : Cursor) : Type 0 where
  pub then : (k : ℕ → ℕ → ℕ → Ans) (g : ℕ) {e : Cursor} {R : List Rec} → Reads (λ u p. lengths g (bit_of s) u p (λ m q. k (n + m) u q)) s d e R
      → Reads (λ u p. lengths (suc g) (bit_of s) u p (λ m q. k m u q)) s c e R
  pub few : n ≤ 65536
  pub inside : Inside s d
  pub window : d.end ≡ c.end
  pub ahead : c.at + 8 ≤ d.at

abbrev pub Heads : List ℕ → Cursor → Head → Type 0
Heads s c (Last n d) = Ends s c n d
Heads s c (Part n d) = GoesOn s c n d

-- the lengths from c on, with the sum of those before, for every bound on their number that is enough
pub record Sums (s : List ℕ) (c : Cursor) (sum : ℕ) (r : Got ℕ) : Type 0 where
  pub then : (k : ℕ → ℕ → ℕ → Ans) (g : ℕ) {d : Cursor} {R : List Rec} → c.end < c.at + g * 8 → Reads (λ u p. k r.v u p) s r.c d R
      → Reads (λ u p. lengths g (bit_of s) u p (λ n q. k (sum + n) u q)) s c d R
  pub few : r.v ≤ 2 ^ 33

-- the length determinant, and what follows it
pub record Measures (s : List ℕ) (c : Cursor) (r : Got ℕ) : Type 0 where
  pub then : (k : ℕ → ℕ → ℕ → Ans) {d : Cursor} {R : List Rec} → Reads (λ u p. k r.v u p) s r.c d R → Reads (λ u p. length_then (bit_of s) u p (λ n q. k n u q)) s c d R
  pub few : r.v ≤ 2 ^ 33

---------------------------------------------------------------- the normally small number

-- n bits as a word
pub record Worth (s : List ℕ) (c : Cursor) (n : ℕ) (g : Got ℕ) : Type 0 where
  pub then : (k : ℕ → ℕ → ℕ → Ans) {d : Cursor} {R : List Rec} → Reads (λ u p. k g.v u p) s g.c d R → Reads (λ u p. pull (bit_of s) u p n (λ v. k (word v) u (p + n))) s c d R

-- the reading of a normally small number behind its mark, with what follows it
unfoldable pub small_then : (ℕ → ℕ) → ℕ → ℕ → (ℕ → ℕ → Ans) → Ans
small_then b e at k = pull b e at 1 λ y. fork y (pull b e (at + 1) 6 λ v. k v (at + 7)) (length_then b e (at + 1) λ n q. pull b e q (n * 8) λ v. k (word v) (q + n * 8))

pub record Smalls (s : List ℕ) (c : Cursor) (g : Got ℕ) : Type 0 where
  pub then : (k : ℕ → ℕ → ℕ → Ans) {d : Cursor} {R : List Rec} → Reads (λ u p. k g.v u p) s g.c d R → Reads (λ u p. small_then (bit_of s) u p (λ v q. k v u q)) s c d R
