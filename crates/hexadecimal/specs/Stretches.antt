-- A text in hexadecimal that comes in stretches, and whose octets are put into a frame as they come.
use Rattle.std.specs.Prelude.{◌≡◌, cond, List, [], ◌∷◌, ◌++◌, ℕ, ◌*◌, ◌/◌, ◌%◌, ◌<◌, eqb, length, take, get_or, Option, Some, None}
use Rattle.hexadecimal.specs.declared.Refusal.{Refusal}
use Rattle.hexadecimal.specs.declared.Refusal.TheVariants.{TooLong, NotHexadecimal}
use Rattle.hexadecimal.specs.declared.stretches.Digits.{Digits}
use Rattle.hexadecimal.specs.Hex.{digit, pair, octets}

-- what there is already, and the rest behind it
unfoldable pub behind : List ℕ → Option (List ℕ) → Option (List ℕ)
behind xs None = None
behind xs (Some ys) = Some (xs ++ ys)

-- the octets of a digit that waits for its lower half, and of what comes
unfoldable pub waiting : Option ℕ → List ℕ → Option (List ℕ)
unfolding pair octets
waiting h [] = None
waiting h (l ∷ t) = pair h (digit l) (octets t)

-- the octets of n digits that are in the frame, and those of what comes; the digit that waits stands in the higher half of its octet
unfoldable pub going_on : ℕ → List ℕ → List ℕ → Option (List ℕ)
unfolding behind waiting octets
going_on n frame rest = behind (take (n / 2) frame) (cond (eqb (n % 2) 0) (octets rest) (waiting (Some (get_or frame (n / 2) 0 / 16)) rest))

-- What was taken of a text so far. More characters than two an octet are too many, whatever they are; else, whatever comes, the octets of the whole are those taken and the rest's, or there are none.
abbrev pub Stands : List ℕ → List ℕ → ℕ → Option Refusal → Type 0
Stands text frame n None = (length text ≡ n) × ((rest : List ℕ) → octets (text ++ rest) ≡ going_on n frame rest)
Stands text frame n (Some NotHexadecimal) = (length text ≡ n) × ((rest : List ℕ) → octets (text ++ rest) ≡ None)
Stands text frame n (Some TooLong) = (n ≡ length frame * 2) × (length frame * 2 < length text)

pub record SoFar (text frame : List ℕ) (s : Digits) : Type 0 where
  pub is : Stands text frame s.taken s.refusal
