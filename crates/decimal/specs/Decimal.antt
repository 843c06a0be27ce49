-- The number of 64 bits that a text in decimal stands for.
use Rattle.std.specs.Prelude.{cond, List, [], ◌∷◌, ℕ, ◌+◌, ◌*◌, ◌-◌, ◌^◌, ltb, Option, Some, None}

-- the number that starts as n and goes on with the digits of a text; none at another character, and where it has no 64 bits
unfoldable pub onward : ℕ → List ℕ → Option ℕ
onward n [] = Some n
onward n (c ∷ t) = cond (ltb c 48) None (cond (ltb c 58) (cond (ltb (n * 10 + (c - 48)) (2 ^ 64)) (onward (n * 10 + (c - 48)) t) None) None)

-- one digit at least
unfoldable pub numeral : List ℕ → Option ℕ
unfolding onward
numeral [] = None
numeral (c ∷ t) = onward 0 (c ∷ t)
