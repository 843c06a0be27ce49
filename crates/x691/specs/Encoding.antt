-- The unaligned basic encoding of X.691, a clause beside each part. Clause numbers are those of the edition of 2002; the source uses the same and names no edition.
use Rattle.std.specs.Prelude.{true, false, cond, List, [], ◌∷◌, ◌++◌, ℕ, zero, suc, ◌+◌, ◌-◌, ◌/◌, length, ltb, eqb}
use Rattle.std.proofs.Math.Option.{Option, none, some}
use Rattle.std.proofs.Common.{inl, inr}
use Rattle.x691.specs.Bits.{bits_of}
use Rattle.x691.specs.Types.{Asn, NULL, UNLISTED, INTEGER, ONE-OF, STRING, ANY-STRING, EXTENSIBLE, SEQUENCE, CHOICE, SEQUENCE-OF, CONTAINING}
use Rattle.x691.specs.Types.{Members, END, ◌&◌, ◌&?◌, Alternatives, NONE, ◌∣◌, extent, Value, Values, Pick}

-- the fewest bits that hold d: 0 for 0 (10.5.4, 10.5.6)
unfoldable pub width_in : ℕ → ℕ → ℕ
width_in zero d = 0
width_in (suc k) d = elim (eqb d 0) [ true ↦ 0 | false ↦ suc (width_in k (d / 2)) ]

unfoldable pub width : ℕ → ℕ
width d = width_in d d

-- a length below 16,384 that no size constraint bounds: 0 and 7 bits, else 10 and 14 bits (10.9.3.6, 10.9.3.7)
unfoldable pub length_bits : ℕ → List ℕ
length_bits n = cond (ltb n 128) (0 ∷ bits_of 7 n) (1 ∷ 0 ∷ bits_of 14 n)

-- a length within lo..hi, as a constrained whole number (10.9.4.1)
unfoldable pub size_bits : ℕ → ℕ → ℕ → List ℕ
size_bits lo hi n = bits_of (width (hi - lo)) (n - lo)

module _ {A : Type 0} where
  -- one after another
  unfoldable pub joined : (A → List ℕ) → List A → List ℕ
  joined h [] = []
  joined h (a ∷ xs) = h a ++ joined h xs

  unfoldable pub if_any : (A → List ℕ) → Option A → List ℕ
  if_any h none = []
  if_any h (some a) = h a

  -- the bit of the preamble: 1 where the member stands (18.2)
  unfoldable pub flag : Option A → ℕ
  flag none = 0
  flag (some a) = 1

-- units of an alphabet of n, each in the fewest bits (15, 16, 27.5.2, 27.5.4)
unfoldable pub unit_bits : ℕ → List ℕ → List ℕ
unit_bits n cs = joined (λ c. bits_of (width (n - 1)) c) cs

-- the preamble: a bit for each OPTIONAL or DEFAULT member (18.2)
unfoldable pub preamble : (ms : Members) → Values ms → List ℕ
preamble END vs = []
preamble (t & ms) vs = preamble ms vs.1
preamble (t &? ms) vs = flag vs.0 ∷ preamble ms vs.1

-- the alternatives are numbered from 0 (22.2)
unfoldable pub count : Alternatives → ℕ
count NONE = 0
count (t ∣ ts) = suc (count ts)

unfoldable pub highest : Alternatives → ℕ
highest ts = count ts - 1

unfoldable pub index : (ts : Alternatives) → Pick ts → ℕ
index NONE c = absurd c
index (t ∣ ts) (inl v) = 0
index (t ∣ ts) (inr c) = suc (index ts c)

unfoldable mutual
  pub encode : (t : Asn) → Value t → List ℕ
  -- no bits (17)
  encode NULL v = []
  encode UNLISTED v = absurd v
  -- a constrained whole number: what it exceeds the lowest by, in the fewest bits for the range (10.5.6, 12.2.2)
  encode (INTEGER lo hi) v = bits_of (width (extent lo hi)) v
  encode (ONE-OF hi xs) v = bits_of (width hi) v
  -- a length, where the size varies, and the units (15.10, 15.11, 16.7, 16.8, 27.5.7)
  encode (STRING n lo hi) cs = size_bits lo hi (length cs) ++ unit_bits n cs
  -- a length determinant and the units (15.11, 16.8)
  encode (ANY-STRING n) cs = length_bits (length cs) ++ unit_bits n cs
  -- the extension bit, 0 for a value of the root (12.1, 13.3, 18.1, 22.5)
  encode (EXTENSIBLE t) v = 0 ∷ encode t v
  -- the preamble, then the members in order (18.2, 18.4)
  encode (SEQUENCE ms) vs = preamble ms vs ++ encode_members ms vs
  -- the index of the alternative, a number from 0 to the highest, then its value (22.6, 22.7)
  encode (CHOICE ts) c = bits_of (width (highest ts)) (index ts c) ++ encode_pick ts c
  -- the count within its size constraint, then the members (19.5, 19.6)
  encode (SEQUENCE-OF lo hi t) vs = size_bits lo hi (length vs) ++ joined (λ v. encode t v) vs
  -- the number of bits of the contents, then these (15.11)
  encode (CONTAINING t) v = length_bits (length (encode t v)) ++ encode t v

  pub encode_members : (ms : Members) → Values ms → List ℕ
  encode_members END vs = []
  encode_members (t & ms) vs = encode t vs.0 ++ encode_members ms vs.1
  encode_members (t &? ms) vs = if_any (λ v. encode t v) vs.0 ++ encode_members ms vs.1

  pub encode_pick : (ts : Alternatives) → Pick ts → List ℕ
  encode_pick NONE c = absurd c
  encode_pick (t ∣ ts) (inl v) = encode t v
  encode_pick (t ∣ ts) (inr c) = encode_pick ts c
