-- What the functions that put a span owe.
use Rattle.std.specs.Prelude.{◌≡◌, Bool, true, false, ◌&&◌, List, ◌++◌, ℕ, ◌+◌, ◌*◌, ◌%◌, ◌≤◌, get_or, eqb}
use Rattle.x691.specs.Bits.{bits_of, stretch}
use Rattle.bit_writer.specs.Put.{set_bits}
use Rattle.pens.specs.Stand.{Stand}
use Rattle.pens.specs.Writes.{limit}

-- n of the bits b from a place on, and no record
pub record InksStretch (b : ℕ → ℕ) (p : Stand) (X : List ℕ) (from n : ℕ) (q : Stand) (Y : List ℕ) : Type 0 where
  pub next_stays : q.next ≡ p.next
  pub off_stays : q.off ≡ p.off
  pub puts : p.at ≤ limit → (q.at ≡ p.at + n) × (Y ≡ set_bits X p.at (stretch b from n))

-- record i has the element number e, and whole units of w bits
unfoldable pub whole : List ℕ → ℕ → ℕ → ℕ → Bool
whole W i e w = eqb (get_or W (i * 5 + 1) 0) e && eqb (get_or W (i * 5 + 3) 0 % w) 0

-- where the next record's span points, and how many bits it has
abbrev pub first : List ℕ → Stand → ℕ
first W p = get_or W (p.next * 5 + 2) 0

abbrev pub size : List ℕ → Stand → ℕ
size W p = get_or W (p.next * 5 + 3) 0

-- n bits of v and the span of the next record, which is taken, or else refused
pub record Sends (b : ℕ → ℕ) (W : List ℕ) (e w n v : ℕ) (p : Stand) (X : List ℕ) (q : Stand) (Y : List ℕ) : Type 0 where
  pub refuses : whole W p.next e w ≡ false → q.off ≡ true
  pub on : whole W p.next e w ≡ true → q.off ≡ false
  pub takes : whole W p.next e w ≡ true → q.next ≡ p.next + 1
  pub puts : whole W p.next e w ≡ true → p.at + (n + size W p) ≤ limit → (q.at ≡ p.at + (n + size W p)) × (Y ≡ set_bits X p.at (bits_of n v ++ stretch b (first W p) (size W p)))
