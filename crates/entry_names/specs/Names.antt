-- The entries by their names, as the letters of a line have them.
use Rattle.std.specs.Prelude.{◌≡◌, Bool, true, false, List, [], ◌∷◌, ℕ, Option, Some, None}
use Rattle.entry_names.specs.declared.Entry.{Entry}
use Rattle.entry_names.specs.declared.Entry.TheVariants.{Apdu, Pdus, Cm, Acse}

abbrev apdu : List ℕ
apdu = 97 ∷ 112 ∷ 100 ∷ 117 ∷ []

abbrev pdus : List ℕ
pdus = 112 ∷ 100 ∷ 117 ∷ 115 ∷ []

abbrev cm : List ℕ
cm = 99 ∷ 109 ∷ []

abbrev acse : List ℕ
acse = 97 ∷ 99 ∷ 115 ∷ 101 ∷ []

-- the name is the entry's, or no entry's
abbrev pub Names : List ℕ → Option Entry → Type 0
Names s (Some Apdu) = s ≡ apdu
Names s (Some Pdus) = s ≡ pdus
Names s (Some Cm) = s ≡ cm
Names s (Some Acse) = s ≡ acse
Names s None = (s ≡ apdu → ⊥) × (s ≡ pdus → ⊥) × (s ≡ cm → ⊥) × (s ≡ acse → ⊥)

abbrev pub is_directed : Option Entry → Bool
is_directed (Some Apdu) = false
is_directed (Some Pdus) = true
is_directed (Some Cm) = true
is_directed (Some Acse) = false
is_directed None = false
