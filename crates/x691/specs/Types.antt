-- The kinds of ASN.1 type that the messages use, and the values of each.
use Rattle.std.proofs.Math.Option.{Option}
use Rattle.std.specs.Prelude.{◌⊎◌, List, ℕ, ◌+◌, ◌-◌, ◌%◌}

infixr 40 ◌&◌
infixr 40 ◌&?◌
infixr 40 ◌∣◌
mutual
  pub data Asn : Type 0 where
    -- NULL
    NULL : Asn
    -- what the schema leaves out: a type without values
    UNLISTED : Asn
    -- INTEGER (lo..hi); an end below zero is written as 2^64 less its magnitude
    INTEGER : ℕ → ℕ → Asn
    -- INTEGER (x | y | ..) from 0 to the number given
    ONE-OF : ℕ → List ℕ → Asn
    -- a string of lo to hi units, each one of n: BIT STRING for n = 2, OCTET STRING for 256, IA5String for 128
    STRING : ℕ → ℕ → ℕ → Asn
    -- a string of any number of units, each one of n
    ANY-STRING : ℕ → Asn
    -- a type with an extension marker, of which the root alone has values here
    EXTENSIBLE : Asn → Asn
    SEQUENCE : Members → Asn
    CHOICE : Alternatives → Asn
    -- SEQUENCE (SIZE (lo..hi)) OF
    SEQUENCE-OF : ℕ → ℕ → Asn → Asn
    -- BIT STRING that contains an encoding and nothing else: its bits, not padded to octets
    CONTAINING : Asn → Asn

  pub data Members : Type 0 where
    END : Members
    ◌&◌ : Asn → Members → Members
    -- OPTIONAL or DEFAULT; document 01 lets a default stand written out, which X.691 drops (18.5)
    ◌&?◌ : Asn → Members → Members

  pub data Alternatives : Type 0 where
    NONE : Alternatives
    ◌∣◌ : Asn → Alternatives → Alternatives

-- ENUMERATED of n names, by their places (X.691 13.1, 13.2)
abbrev pub ENUMERATED : ℕ → Asn
ENUMERATED n = INTEGER 0 (n - 1)

-- highest less lowest
unfoldable pub extent : ℕ → ℕ → ℕ
extent lo hi = (hi + (18446744073709551616 - lo)) % 18446744073709551616

-- The values: a number by what it exceeds its lowest by, a string by its units, a member by what stands there or nothing, an alternative by its place and value.
abbrev mutual
  pub Value : Asn → Type 0
  Value NULL = Unit {0}
  Value UNLISTED = ⊥
  Value (INTEGER lo hi) = ℕ
  Value (ONE-OF hi xs) = ℕ
  Value (STRING n lo hi) = List ℕ
  Value (ANY-STRING n) = List ℕ
  Value (EXTENSIBLE t) = Value t
  Value (SEQUENCE ms) = Values ms
  Value (CHOICE ts) = Pick ts
  Value (SEQUENCE-OF lo hi t) = List (Value t)
  Value (CONTAINING t) = Value t

  pub Values : Members → Type 0
  Values END = Unit {0}
  Values (t & ms) = Value t × Values ms
  Values (t &? ms) = Option (Value t) × Values ms

  pub Pick : Alternatives → Type 0
  Pick NONE = ⊥
  Pick (t ∣ ts) = Value t ⊎ Pick ts
