-- The bits of an encoding are bits: each is 0 or 1.
use mathlib.Core.Path.{◌≡◌, refl}
use mathlib.Core.Bool.{Bool, true, false, cond}
use mathlib.Core.Option.{Option, none, some}
use mathlib.Core.Logic.{inl, inr}
use mathlib.Core.List.{List, [], ◌∷◌, ◌++◌}
use Prim.Native.Nat.{ℕ, ◌-◌, ◌≤◌, ◌<◌}
use native.Mathlib.Omega.{arith}
use lib.ListN.{length}
use lib.Dec.{ltb}
use borrow.Author.Tests.{ltb-true}
use Rattle.x691.specs.Bits.{bits_of}
use Rattle.x691.specs.Types.{Asn, NULL, UNLISTED, INTEGER, ONE-OF, STRING, ANY-STRING, EXTENSIBLE, SEQUENCE, CHOICE, SEQUENCE-OF, CONTAINING}
use Rattle.x691.specs.Types.{Members, END, ◌&◌, ◌&?◌, Alternatives, NONE, ◌∣◌, extent, Value, Values, Pick}
use Rattle.x691.specs.Encoding.{width, length_bits, size_bits, joined, if_any, flag, unit_bits, preamble, highest, index, encode, encode_members, encode_pick}
use Rattle.x691.specs.Range.{All, IfAny, InRange, AllInRange, PickInRange}
use Rattle.x691.proofs.Widths.{width-holds, unit-fits, index-highest}
use Rattle.bit_writer.proofs.Numbers.{bits_of-below, below-join}

-- each is 0 or 1
abbrev pub Below : List ℕ → Type 0
Below xs = All (λ c. c < 2) xs

-- one list behind another
join : (xs ys : List ℕ) → Below xs → Below ys → Below (xs ++ ys)
join xs ys h k = below-join 2 xs ys h k

-- a number within its range
within : (n v : ℕ) → v ≤ n → Below (bits_of (width n) v)
within n v h = bits_of-below (width n) v (omega (arith, width-holds n))

-- a size
size : (lo hi n : ℕ) → n ≤ hi → Below (size_bits lo hi n)
unfolding size_bits
size lo hi n h = within (hi - lo) (n - lo) (omega arith)

-- a length that no size bounds
lengths : (n : ℕ) → n < 16384 → Below (length_bits n)
unfolding length_bits
lengths n h = go (ltb n 128) refl
  where
    go : (b : Bool) → ltb n 128 ≡ b → Below (cond b (0 ∷ bits_of 7 n) (1 ∷ 0 ∷ bits_of 14 n))
    go true e = (omega arith, bits_of-below 7 n (ltb-true n 128 e))
    go false e = (omega arith, (omega arith, bits_of-below 14 n h))

module _ {A : Type 0} (P : A → Type 0) (enc : A → List ℕ) (ih : (a : A) → P a → Below (enc a)) where
  -- one after another
  each : (vs : List A) → All P vs → Below (joined enc vs)
  unfolding joined
  each [] g = tt
  each (a ∷ vs) g = join (enc a) (joined enc vs) (ih a g.0) (each vs g.1)

  -- a member that may stand there
  any : (o : Option A) → IfAny P o → Below (if_any enc o)
  unfolding if_any
  any none g = tt
  any (some a) g = ih a g

-- units of an alphabet
units : (n : ℕ) (cs : List ℕ) → All (λ c. c < n) cs → Below (unit_bits n cs)
unfolding unit_bits
units n cs g = each (λ c. c < n) (λ c. bits_of (width (n - 1)) c) (λ c h. bits_of-below (width (n - 1)) c (unit-fits n c h)) cs g

-- a presence bit
flag_below : {A : Type 0} (o : Option A) → flag o < 2
unfolding flag
flag_below none = omega arith
flag_below (some a) = omega arith

-- the presence bits
presence : (ms : Members) (vs : Values ms) → Below (preamble ms vs)
unfolding preamble
presence END vs = tt
presence (t & ms) vs = presence ms vs.1
presence (t &? ms) vs = (flag_below vs.0, presence ms vs.1)

mutual
  unfolding encode

  -- of a value in range
  pub encode_below : (t : Asn) (v : Value t) → InRange t v → All (λ c. c < 2) (encode t v)
  encode_below NULL v g = tt
  encode_below UNLISTED v g = absurd v
  encode_below (INTEGER lo hi) v g = within (extent lo hi) v g
  encode_below (ONE-OF hi xs) v g = within hi v g.0
  encode_below (STRING n lo hi) v g = join (size_bits lo hi (length v)) (unit_bits n v) (size lo hi (length v) g.1) (units n v g.2)
  encode_below (ANY-STRING n) v g = join (length_bits (length v)) (unit_bits n v) (lengths (length v) g.0) (units n v g.1)
  encode_below (EXTENSIBLE t) v g = (omega arith, encode_below t v g)
  encode_below (SEQUENCE ms) v g = join (preamble ms v) (encode_members ms v) (presence ms v) (members_below ms v g)
  encode_below (CHOICE ts) v g = join (bits_of (width (highest ts)) (index ts v)) (encode_pick ts v) (within (highest ts) (index ts v) (index-highest ts v)) (pick-below ts v g)
  encode_below (SEQUENCE-OF lo hi t) v g = join (size_bits lo hi (length v)) (joined (λ a. encode t a) v) (size lo hi (length v) g.1) (each (λ a. InRange t a) (λ a. encode t a) (λ a y. encode_below t a y) v g.2)
  encode_below (CONTAINING t) v g = join (length_bits (length (encode t v))) (encode t v) (lengths (length (encode t v)) g.0) (encode_below t v g.1)

  members_below : (ms : Members) (vs : Values ms) → AllInRange ms vs → All (λ c. c < 2) (encode_members ms vs)
  members_below END vs g = tt
  members_below (t & ms) vs g = join (encode t vs.0) (encode_members ms vs.1) (encode_below t vs.0 g.0) (members_below ms vs.1 g.1)
  members_below (t &? ms) vs g = join (if_any (λ a. encode t a) vs.0) (encode_members ms vs.1) (any (λ a. InRange t a) (λ a. encode t a) (λ a y. encode_below t a y) vs.0 g.0) (members_below ms vs.1 g.1)

  pick-below : (ts : Alternatives) (v : Pick ts) → PickInRange ts v → All (λ c. c < 2) (encode_pick ts v)
  pick-below NONE v g = absurd v
  pick-below (t ∣ ts) (inl v) g = encode_below t v g
  pick-below (t ∣ ts) (inr v) g = pick-below ts v g
