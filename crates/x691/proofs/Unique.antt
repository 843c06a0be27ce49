-- Encodings are told apart from their first bits: of two values whose encodings begin one string of bits, the values are the same. So of two different messages neither begins the other.
use mathlib.Core.Path.{◌≡◌, refl, sym, ap, ◌∙◌}
use mathlib.Core.Bool.{Bool, true, false, cond}
use mathlib.Core.Option.{Option, none, some}
use mathlib.Core.Logic.{inl, inr}
use mathlib.Core.List.{List, [], ◌∷◌, ◌++◌, append_assoc, append-nil}
use Prim.Native.Nat.{ℕ, zero, suc, ◌+◌, ◌-◌, ◌/◌, ◌%◌, ◌^◌, ◌≤◌, ◌<◌}
use native.Mathlib.Nat.{mod-lt}
use native.Mathlib.Omega.{arith}
use lib.ListN.{length}
use lib.Dec.{ltb}
use lib.Pow.{split, pow_pos}
use borrow.Author.Tests.{ltb-true}
use Rattle.x691.specs.Bits.{bits_of}
use Rattle.x691.specs.Types.{Asn, NULL, UNLISTED, INTEGER, ONE-OF, STRING, ANY-STRING, EXTENSIBLE, SEQUENCE, CHOICE, SEQUENCE-OF, CONTAINING}
use Rattle.x691.specs.Types.{Members, END, ◌&◌, ◌&?◌, Alternatives, NONE, ◌∣◌, extent, Value, Values, Pick}
use Rattle.x691.specs.Encoding.{width, length_bits, size_bits, joined, if_any, flag, unit_bits, preamble, highest, index, encode, encode_members, encode_pick}
use Rattle.x691.specs.Range.{All, IfAny, InRange, AllInRange, PickInRange}
use Rattle.x691.proofs.Widths.{width-holds, unit-fits, index-highest}

-- two beginnings of one string of bits, each with what follows
abbrev pub Told : {A : Type 0} → A → A → List ℕ → List ℕ → Type 0
Told a c xs ys = (a ≡ c) × (xs ≡ ys)

apart : {A : Type 0} → ◌≡◌ {A = ℕ} 0 1 → A
apart h = absurd (omega arith)

bits-told : (n v w : ℕ) (xs ys : List ℕ) → v < 2 ^ n → w < 2 ^ n → bits_of n v ++ xs ≡ bits_of n w ++ ys → Told v w xs ys
unfolding bits_of
bits-told zero v w xs ys g h q = (omega arith, q)
bits-told (suc n) v w xs ys g h q =
    let x : v / 2 ^ n ≡ w / 2 ^ n = cc in
    let y : bits_of n (v % 2 ^ n) ++ xs ≡ bits_of n (w % 2 ^ n) ++ ys = cc in
    let z = bits-told n (v % 2 ^ n) (w % 2 ^ n) xs ys (mod-lt v (pow_pos n)) (mod-lt w (pow_pos n)) y in
    (sym (split v n) ∙ rw (x, z.0) (split w n), z.1)

size-told : (lo hi n m : ℕ) (xs ys : List ℕ) → lo ≤ n → n ≤ hi → lo ≤ m → m ≤ hi → size_bits lo hi n ++ xs ≡ size_bits lo hi m ++ ys → Told n m xs ys
unfolding size_bits
size-told lo hi n m xs ys a b c d q =
    let z = bits-told (width (hi - lo)) (n - lo) (m - lo) xs ys (omega (arith, width-holds (hi - lo))) (omega (arith, width-holds (hi - lo))) q in
    (omega (arith, z.0), z.1)

length-told : (n m : ℕ) (xs ys : List ℕ) → n < 16384 → m < 16384 → length_bits n ++ xs ≡ length_bits m ++ ys → Told n m xs ys
unfolding length_bits
length-told n m xs ys g h q = go (ltb n 128) (ltb m 128) refl refl q
  where
    go : (s t : Bool) → ltb n 128 ≡ s → ltb m 128 ≡ t → cond s (0 ∷ bits_of 7 n) (1 ∷ 0 ∷ bits_of 14 n) ++ xs ≡ cond t (0 ∷ bits_of 7 m) (1 ∷ 0 ∷ bits_of 14 m) ++ ys → Told n m xs ys
    go true true a b e = bits-told 7 n m xs ys (ltb-true n 128 a) (ltb-true m 128 b) (cc)
    go false false a b e = bits-told 14 n m xs ys g h (cc)
    go true false a b e = apart (cc)
    go false true a b e = apart (cc)

units-told : (n : ℕ) (cs ds : List ℕ) (xs ys : List ℕ) → length cs ≡ length ds → All (λ c. c < n) cs → All (λ c. c < n) ds → unit_bits n cs ++ xs ≡ unit_bits n ds ++ ys → Told cs ds xs ys
unfolding unit_bits joined
units-told n [] [] xs ys l g h q = (refl, q)
units-told n [] (d ∷ ds) xs ys l g h q = absurd (omega arith)
units-told n (c ∷ cs) [] xs ys l g h q = absurd (omega arith)
units-told n (c ∷ cs) (d ∷ ds) xs ys l g h q =
    let w : ℕ = width (n - 1) in
    let z = bits-told w c d (unit_bits n cs ++ xs) (unit_bits n ds ++ ys) (unit-fits n c g.0) (unit-fits n d h.0) (sym (append_assoc (bits_of w c) (unit_bits n cs) xs) ∙ q ∙ append_assoc (bits_of w d) (unit_bits n ds) ys) in
    let y = units-told n cs ds xs ys (omega arith) g.1 h.1 z.1 in
    let x = z.0 in
    let u = y.0 in
    (cc, y.1)

module _ {A : Type 0} (P : A → Type 0) (enc : A → List ℕ) (ih : (v w : A) (xs ys : List ℕ) → P v → P w → enc v ++ xs ≡ enc w ++ ys → Told v w xs ys) where
  all_told : (vs ws : List A) (xs ys : List ℕ) → length vs ≡ length ws → All P vs → All P ws → joined enc vs ++ xs ≡ joined enc ws ++ ys → Told vs ws xs ys
  unfolding joined
  all_told [] [] xs ys l g h q = (refl, q)
  all_told [] (w ∷ ws) xs ys l g h q = absurd (omega arith)
  all_told (v ∷ vs) [] xs ys l g h q = absurd (omega arith)
  all_told (v ∷ vs) (w ∷ ws) xs ys l g h q =
      let z = ih v w (joined enc vs ++ xs) (joined enc ws ++ ys) g.0 h.0 (sym (append_assoc (enc v) (joined enc vs) xs) ∙ q ∙ append_assoc (enc w) (joined enc ws) ys) in
      let y = all_told vs ws xs ys (omega arith) g.1 h.1 z.1 in
      let x = z.0 in
      let u = y.0 in
      (cc, y.1)

  any_told : (v w : Option A) (xs ys : List ℕ) → flag v ≡ flag w → IfAny P v → IfAny P w → if_any enc v ++ xs ≡ if_any enc w ++ ys → Told v w xs ys
  unfolding if_any flag
  any_told none none xs ys f g h q = (refl, q)
  any_told none (some w) xs ys f g h q = apart f
  any_told (some v) none xs ys f g h q = apart (sym f)
  any_told (some v) (some w) xs ys f g h q = let z = ih v w xs ys g h q in (ap some z.0, z.1)

preamble-told : (ms : Members) (vs ws : Values ms) (xs ys : List ℕ) → preamble ms vs ++ xs ≡ preamble ms ws ++ ys → Told (preamble ms vs) (preamble ms ws) xs ys
unfolding preamble
preamble-told END vs ws xs ys q = (refl, q)
preamble-told (t & ms) vs ws xs ys q = preamble-told ms vs.1 ws.1 xs ys q
preamble-told (t &? ms) vs ws xs ys q =
    let x : flag vs.0 ≡ flag ws.0 = cc in
    let y = preamble-told ms vs.1 ws.1 xs ys (cc) in
    let z = y.0 in
    (cc, y.1)

-- two after one another
pair : {A B : Type 0} (p q : A × B) → p.0 ≡ q.0 → p.1 ≡ q.1 → p ≡ q
pair p q h g = λ i. (h i, g i)

mutual
  unfolding encode preamble index

  pub told : (t : Asn) (v w : Value t) (xs ys : List ℕ) → InRange t v → InRange t w → encode t v ++ xs ≡ encode t w ++ ys → Told v w xs ys
  told NULL v w xs ys g h q = (refl, q)
  told UNLISTED v w xs ys g h q = absurd v
  told (INTEGER lo hi) v w xs ys g h q = bits-told (width (extent lo hi)) v w xs ys (omega (arith, width-holds (extent lo hi))) (omega (arith, width-holds (extent lo hi))) q
  told (ONE-OF hi zs) v w xs ys g h q = bits-told (width hi) v w xs ys (omega (arith, width-holds hi, g.0)) (omega (arith, width-holds hi, h.0)) q
  told (STRING n lo hi) cs ds xs ys g h q =
      let a : List ℕ = size_bits lo hi (length cs) in
      let c : List ℕ = size_bits lo hi (length ds) in
      let z = size-told lo hi (length cs) (length ds) (unit_bits n cs ++ xs) (unit_bits n ds ++ ys) g.0 g.1 h.0 h.1 (sym (append_assoc a (unit_bits n cs) xs) ∙ q ∙ append_assoc c (unit_bits n ds) ys) in
      units-told n cs ds xs ys z.0 g.2 h.2 z.1
  told (ANY-STRING n) cs ds xs ys g h q =
      let a : List ℕ = length_bits (length cs) in
      let c : List ℕ = length_bits (length ds) in
      let z = length-told (length cs) (length ds) (unit_bits n cs ++ xs) (unit_bits n ds ++ ys) g.0 h.0 (sym (append_assoc a (unit_bits n cs) xs) ∙ q ∙ append_assoc c (unit_bits n ds) ys) in
      units-told n cs ds xs ys z.0 g.1 h.1 z.1
  told (EXTENSIBLE t) v w xs ys g h q = told t v w xs ys g h (cc)
  told (SEQUENCE ms) vs ws xs ys g h q =
      let r : List ℕ = encode_members ms vs in
      let s : List ℕ = encode_members ms ws in
      let z = preamble-told ms vs ws (r ++ xs) (s ++ ys) (sym (append_assoc (preamble ms vs) r xs) ∙ q ∙ append_assoc (preamble ms ws) s ys) in
      members_told ms vs ws xs ys z.0 g h z.1
  told (CHOICE ts) c d xs ys g h q =
      let w : ℕ = width (highest ts) in
      let a : List ℕ = bits_of w (index ts c) in
      let e : List ℕ = bits_of w (index ts d) in
      let z =
      bits-told w (index ts c) (index ts d) (encode_pick ts c ++ xs) (encode_pick ts d ++ ys) (omega (arith, width-holds (highest ts), index-highest ts c)) (omega (arith, width-holds (highest ts), index-highest ts d)) (sym (append_assoc a (encode_pick ts c) xs) ∙ q ∙ append_assoc e (encode_pick ts d) ys) in
      pick-told ts c d xs ys z.0 g h z.1
  told (SEQUENCE-OF lo hi t) vs ws xs ys g h q =
      let r : List ℕ = joined (λ v. encode t v) vs in
      let s : List ℕ = joined (λ v. encode t v) ws in
      let z = size-told lo hi (length vs) (length ws) (r ++ xs) (s ++ ys) g.0 g.1 h.0 h.1 (sym (append_assoc (size_bits lo hi (length vs)) r xs) ∙ q ∙ append_assoc (size_bits lo hi (length ws)) s ys) in
      all_told (λ v. InRange t v) (λ v. encode t v) (λ v w a b c d e. told t v w a b c d e) vs ws xs ys z.0 g.2 h.2 z.1
  told (CONTAINING t) v w xs ys g h q =
      let r : List ℕ = encode t v in
      let s : List ℕ = encode t w in
      let z = length-told (length r) (length s) (r ++ xs) (s ++ ys) g.0 h.0 (sym (append_assoc (length_bits (length r)) r xs) ∙ q ∙ append_assoc (length_bits (length s)) s ys) in
      told t v w xs ys g.1 h.1 z.1

  members_told : (ms : Members) (vs ws : Values ms) (xs ys : List ℕ) → preamble ms vs ≡ preamble ms ws → AllInRange ms vs → AllInRange ms ws → encode_members ms vs ++ xs ≡ encode_members ms ws ++ ys → Told vs ws xs ys
  members_told END vs ws xs ys p g h q = (refl, q)
  members_told (t & ms) vs ws xs ys p g h q =
      let a : List ℕ = encode t vs.0 in
      let c : List ℕ = encode t ws.0 in
      let r : List ℕ = encode_members ms vs.1 in
      let s : List ℕ = encode_members ms ws.1 in
      let z = told t vs.0 ws.0 (r ++ xs) (s ++ ys) g.0 h.0 (sym (append_assoc a r xs) ∙ q ∙ append_assoc c s ys) in
      let y = members_told ms vs.1 ws.1 xs ys p g.1 h.1 z.1 in
      (pair vs ws z.0 y.0, y.1)
  members_told (t &? ms) vs ws xs ys p g h q =
      let a : List ℕ = if_any (λ v. encode t v) vs.0 in
      let c : List ℕ = if_any (λ v. encode t v) ws.0 in
      let r : List ℕ = encode_members ms vs.1 in
      let s : List ℕ = encode_members ms ws.1 in
      let z = any_told (λ v. InRange t v) (λ v. encode t v) (λ v w a b c d e. told t v w a b c d e) vs.0 ws.0 (r ++ xs) (s ++ ys) (cc) g.0 h.0 (sym (append_assoc a r xs) ∙ q ∙ append_assoc c s ys) in
      let y = members_told ms vs.1 ws.1 xs ys (cc) g.1 h.1 z.1 in
      (pair vs ws z.0 y.0, y.1)

  pick-told : (ts : Alternatives) (c d : Pick ts) (xs ys : List ℕ) → index ts c ≡ index ts d → PickInRange ts c → PickInRange ts d → encode_pick ts c ++ xs ≡ encode_pick ts d ++ ys → Told c d xs ys
  pick-told NONE c d xs ys i g h q = absurd c
  pick-told (t ∣ ts) (inl v) (inl w) xs ys i g h q = let z = told t v w xs ys g h q in (ap inl z.0, z.1)
  pick-told (t ∣ ts) (inl v) (inr d) xs ys i g h q = absurd (omega arith)
  pick-told (t ∣ ts) (inr c) (inl w) xs ys i g h q = absurd (omega arith)
  pick-told (t ∣ ts) (inr c) (inr d) xs ys i g h q = let z = pick-told ts c d xs ys (omega arith) g h q in (ap inr z.0, z.1)

-- of two encodings neither begins the other, unless the values are the same
pub none-begins : (t : Asn) (v w : Value t) (xs : List ℕ) → InRange t v → InRange t w → encode t v ++ xs ≡ encode t w → (v ≡ w) × (xs ≡ [])
none-begins t v w xs g h q = told t v w xs [] g h (q ∙ sym (append-nil (encode t w)))
