-- Numbers as the source's `format!` shows them, made from whole numbers. That its doubles show the same is run, for every value (tools/screen).
use Rattle.std.specs.Prelude.{cond, List, [], ◌∷◌, ◌++◌, ℕ, zero, suc, ◌+◌, ◌*◌, ◌/◌, ◌%◌, ◌-◌, ◌^◌, ltb}

-- the last digit of x
unfoldable pub digit : ℕ → ℕ
digit x = 48 + x % 10

-- x in at most k digits
unfoldable pub digits : ℕ → ℕ → List ℕ
digits zero x = []
digits (suc k) x = cond (ltb x 10) (digit x ∷ []) (digits k (x / 10) ++ digit x ∷ [])

-- `{}`: twenty digits hold every number of 64 bits
unfoldable pub decimal : ℕ → List ℕ
decimal x = digits 20 x

-- `{:02}`
unfoldable pub two_digits : ℕ → List ℕ
two_digits x = cond (ltb x 10) (48 ∷ []) [] ++ decimal x

-- `{:.2}` of x / 100
unfoldable pub hundredths : ℕ → List ℕ
hundredths x = decimal (x / 100) ++ 46 ∷ digit (x / 10) ∷ digit x ∷ []

-- `{:.3}` of x / 1000
unfoldable pub thousandths : ℕ → List ℕ
thousandths x = decimal (x / 1000) ++ 46 ∷ digit (x / 100) ∷ digit (x / 10) ∷ digit x ∷ []

-- the magnitude of a record's number, of which no reading gives one above 32 bits
unfoldable pub magnitude : ℕ → ℕ
magnitude v = cond (ltb v (2 ^ 63)) v (2 ^ 64 - v) % 2 ^ 32

-- `{}` of a record's number times n: below zero it is 2^64 less the magnitude
unfoldable pub signed : ℕ → ℕ → List ℕ
signed n v = cond (ltb v (2 ^ 63)) [] (45 ∷ []) ++ decimal (magnitude v * n)
