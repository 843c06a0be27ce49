-- Characters by where they stand.
use Rattle.std.specs.Prelude.{◌≡◌, true, cond, List, ℕ, zero, suc, ◌+◌, ◌-◌, ◌*◌, ◌/◌, ◌%◌, ◌^◌, ◌≤◌, ◌<◌, length}
use Rattle.x691.specs.Bits.{bit_of}
use Rattle.atn.specs.Reading.{coded, spaced, units}
use Rattle.tell.specs.declared.characters.Run.{Run}

-- the units from the one numbered i on
abbrev pub units_from : List ℕ → Run → ℕ → List ℕ
units_from s r i = units (bit_of s) r.width (r.at + i * r.width) (r.len - i)

-- the characters, counted from the first one's code
unfoldable pub counted : List ℕ → Run → ℕ → List ℕ
counted s r i = coded r.first (units_from s r i)

-- as they are told
unfoldable pub from : List ℕ → Run → ℕ → List ℕ
from s r i = cond r.spaced (spaced (units_from s r i)) (counted s r i)

-- they are in the frame, and so are their places in a word; each code is an octet
pub record Spelt (s : List ℕ) (r : Run) : Type 0 where
  pub there : r.at + r.len * r.width ≤ length s * 8
  pub fits : r.at + r.len * r.width < 2 ^ 64
  pub narrow : r.width ≤ 8
  pub octet : r.first + 2 ^ r.width ≤ 256
  pub numeric : r.spaced ≡ true → (r.first ≡ 48) × (r.width ≡ 4)

-- the n lowest numbers of w bits in v, put into l bits each
unfoldable pub widened : ℕ → ℕ → ℕ → ℕ → ℕ
widened w l zero v = 0
widened w l (suc n) v = widened w l n (v / 2 ^ w) * 2 ^ l + v % 2 ^ w
