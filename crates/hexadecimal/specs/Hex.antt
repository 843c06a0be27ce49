-- The octets that a text in hexadecimal stands for.
use Rattle.std.specs.Prelude.{◌≡◌, cond, List, [], ◌∷◌, ℕ, ◌+◌, ◌*◌, ◌-◌, ◌≤◌, ◌<◌, ltb, length, take, Option, Some, None, Result, Ok, Err}
use Rattle.hexadecimal.specs.declared.Refusal.{Refusal}
use Rattle.hexadecimal.specs.declared.Refusal.TheVariants.{TooLong, NotHexadecimal}

-- `0` to `9`, `A` to `F`, `a` to `f`; none for any other character
abbrev pub digit : ℕ → Option ℕ
digit c = cond (ltb c 48) None (cond (ltb c 58) (Some (c - 48)) (cond (ltb c 65) None (cond (ltb c 71) (Some (c - 55)) (cond (ltb c 97) None (cond (ltb c 103) (Some (c - 87)) None)))))

unfoldable pub before : ℕ → Option (List ℕ) → Option (List ℕ)
before o None = None
before o (Some os) = Some (o ∷ os)

unfoldable pub pair : Option ℕ → Option ℕ → Option (List ℕ) → Option (List ℕ)
unfolding before
pair None l os = None
pair (Some h) None os = None
pair (Some h) (Some l) os = before (h * 16 + l) os

-- two digits an octet, the higher first; none where a digit stands alone or another character is met
unfoldable pub octets : List ℕ → Option (List ℕ)
unfolding pair
octets [] = Some []
octets (h ∷ []) = None
octets (h ∷ l ∷ t) = pair (digit h) (digit l) (octets t)

-- what a text gives: its octets at the front of what they are put into, where it has any and they have room
abbrev pub Decodes : List ℕ → List ℕ → Result ℕ Refusal → Type 0
Decodes text out (Ok n) = (octets text ≡ Some (take n out)) × (n ≤ length out)
Decodes text out (Err NotHexadecimal) = (octets text ≡ None) × (length text ≤ length out * 2)
Decodes text out (Err TooLong) = length out * 2 < length text
