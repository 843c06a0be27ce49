-- The bytes of a fixed text, which stands in definitions as it is shown.
use Rattle.std.specs.Prelude.{List, [] as []ᴸ, ◌∷◌ as ◌∷ᴸ◌, ℕ}
use Prim.Native.Char.{code}
use Prim.Native.String.{String, [], ◌∷◌}

-- characters of seven bits, one byte each
unfoldable pub bytes : String → List ℕ
bytes [] = []ᴸ
bytes (c ∷ s) = code c ∷ᴸ bytes s

-- the degree sign has two bytes in UTF-8
unfoldable pub degree_sign : List ℕ
degree_sign = 194 ∷ᴸ 176 ∷ᴸ []ᴸ
