-- The octets of a word as characters.
use Rattle.std.specs.Prelude.{Bool, true, false, cond, ◌&&◌, ℕ, zero, suc, ◌-◌, ◌/◌, ◌%◌, leb, ltb, eqb, Option, Some, None}
use Rattle.record_grammar.specs.declared.octets.Rule.{Rule}
use Rattle.record_grammar.specs.declared.octets.Rule.TheVariants.{Ia5, Channel, Digits, Spaced}

-- v is one of `size` numbers from `low` on
unfoldable pub within : ℕ → ℕ → ℕ → Bool
within low size v = leb low v && ltb (v - low) size

-- X.680's character for one that the source has: the digit 0 is the space, each other the one before
unfoldable pub spaced_one : ℕ → ℕ
spaced_one a = cond (eqb a 48) 32 (a - 1)

-- the number of a rule; without one 4, by which nothing fits
abbrev pub rule_number : Option Rule → ℕ
rule_number (Some Ia5) = 0
rule_number (Some Channel) = 1
rule_number (Some Digits) = 2
rule_number (Some Spaced) = 3
rule_number None = 4

-- a character by a rule: 0 IA5; 1 a raw from 0 to 15 as the source has it; 2 a raw from 0 to 10; 3 X.680's for the octet a of another word
unfoldable pub octet_fits : ℕ → ℕ → ℕ → Bool
octet_fits rule a b = cond (eqb rule 0) (ltb b 128) (cond (eqb rule 1) (within 48 16 b) (cond (eqb rule 2) (within 48 11 b) (cond (eqb rule 3) (eqb b (spaced_one a)) false)))

-- behind the last character octets are zero
unfoldable pub octet_or : ℕ → ℕ → ℕ → ℕ → Bool
octet_or rule spare a b = cond (eqb spare 0) (octet_fits rule a b) (eqb b 0)

-- the lowest k octets of v, by those of u: the lowest of all are spare
unfoldable pub octets_fit : ℕ → ℕ → ℕ → ℕ → ℕ → Bool
octets_fit rule spare zero u v = true
octets_fit rule spare (suc k) u v = octet_or rule spare (u % 256) (v % 256) && octets_fit rule (spare - 1) k (u / 256) (v / 256)

-- a word that begins with n characters, at most 8, and has no more
unfoldable pub characters_fit : ℕ → ℕ → ℕ → ℕ → Bool
characters_fit rule n u v = octets_fit rule (8 - n) 8 u v
