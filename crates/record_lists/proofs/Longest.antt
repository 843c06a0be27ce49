-- No value of a format has more bits than the most that are counted for it.
use mathlib.Core.Path.{◌≡◌, ◌∙◌}
use mathlib.Core.Bool.{Bool, true, false, cond}
use mathlib.Core.Option.{Option, none, some}
use mathlib.Core.Logic.{inl, inr}
use mathlib.Core.List.{List, [], ◌∷◌}
use Prim.Native.Nat.{ℕ, suc, ◌+◌, ◌-◌, ◌*◌, ◌^◌, ◌≤◌}
use native.Mathlib.Omega.{arith}
use native.Mathlib.Nat.{mul-le-mul_right, suc-mul}
use lib.ListN.{length, length-append}
use lib.Dec.{ltb}
use Rattle.x691.specs.Bits.{bits_of}
use Rattle.x691.specs.Types.{Value, Values, Pick, extent}
use Rattle.x691.specs.Encoding.{width, highest, length_bits, size_bits, unit_bits, joined, if_any, preamble, encode, encode_members, encode_pick, index}
use Rattle.x691.specs.Range.{All, IfAny, InRange, AllInRange, PickInRange}
use Rattle.x691.proofs.BitLaws.{length-bits_of}
use Rattle.atn.specs.Format.{Fmt, num, listed, name, text, span, any_span, skipped, small, null, noted, placed, marked, refuse, element, ext, seq, loose, choice, many, inner, soft, lax}
use Rattle.atn.specs.Format.{Flds, end, ◌⨾◌, ◌⨾?◌, or_note, unread, Alts, none_left, ◌∥◌, type_of, members_of, alternatives_of}
use Rattle.atn.proofs.Steps.{length-size, length-units}
use Rattle.atn.proofs.Complete.{length-preamble}
use Rattle.record_lists.specs.Most.{most, most_fields, most_alts}
use Rattle.record_lists.proofs.First.{length-span}

length-lengths : (n : ℕ) → length (length_bits n) ≤ 16
unfolding length_bits
length-lengths n = go (ltb n 128)
  where
    go : (b : Bool) → length (cond b (0 ∷ bits_of 7 n) (1 ∷ 0 ∷ bits_of 14 n)) ≤ 16
    go true = omega (arith, length-bits_of 7 n)
    go false = omega (arith, length-bits_of 14 n)

joined-most : {A : Type 0} (enc : A → List ℕ) (P : A → Type 0) (k : ℕ) → ((a : A) → P a → length (enc a) ≤ k) → (vs : List A) → All P vs → length (joined enc vs) ≤ length vs * k
unfolding joined
joined-most enc P k ih [] g = omega arith
joined-most enc P k ih (a ∷ vs) g =
    let i = ih a g.0 in
    let j = joined-most enc P k ih vs g.1 in
    let e : length (a ∷ vs) * k ≡ k + length vs * k = suc-mul_swap (length vs) k in
    omega (arith, length-append (enc a) (joined enc vs), e)
  where
    suc-mul_swap : (n k : ℕ) → suc n * k ≡ k + n * k
    suc-mul_swap n k = suc-mul n k ∙ omega arith

any_most : {A : Type 0} (enc : A → List ℕ) (P : A → Type 0) (k : ℕ) → ((a : A) → P a → length (enc a) ≤ k) → (o : Option A) → IfAny P o → length (if_any enc o) ≤ k
unfolding if_any
any_most enc P k ih none g = omega arith
any_most enc P k ih (some a) g = ih a g

sized-most : (n lo hi : ℕ) (u : ℕ) → lo ≤ n → n ≤ hi → n * u ≤ hi * u
sized-most n lo hi u l h = mul-le-mul_right u h

mutual
  unfolding most encode if_any

  pub longest : (f : Fmt) (v : Value (type_of f)) → InRange (type_of f) v → length (encode (type_of f) v) ≤ most f
  longest (num t lo hi) v g = omega (arith, length-bits_of (width (extent lo hi)) v)
  longest (listed t hi xs) v g = omega (arith, length-bits_of (width hi) v)
  longest (name t hi) v g = omega (arith, length-bits_of (width (extent 0 hi)) v)
  longest (text t n c lo hi) v g =
      let e = length-append (size_bits lo hi (length v)) (unit_bits n v) in
      let i = length-size (λ _. 0) 0 lo hi (length v) in
      let j = length-units (λ _. 0) 0 n v in
      omega (arith, e, i, j, sized-most (length v) lo hi (width (n - 1)) g.0 g.1)
  longest (span t w lo hi) v g =
      let e = length-append (size_bits lo hi (length v)) (unit_bits (2 ^ w) v) in
      let i = length-size (λ _. 0) 0 lo hi (length v) in
      let j = length-span w v in
      omega (arith, e, i, j, sized-most (length v) lo hi w g.0 g.1)
  longest (any_span t w) v g =
      let e = length-append (length_bits (length v)) (unit_bits (2 ^ w) v) in
      let j = length-span w v in
      omega (arith, e, length-lengths (length v), j, sized-most (length v) 0 16384 w (omega arith) (omega (arith, g.0)))
  longest (skipped m) v g = absurd v
  longest (small m t) v g = absurd v
  longest null v g = omega arith
  longest (noted t y s f) v g = longest f v g
  longest (placed t f) v g = longest f v g
  longest (marked m) v g = absurd v
  longest (refuse w m) v g = absurd v
  longest (element f) v g = longest f v g
  longest (ext f h) v g = omega (arith, longest f v g)
  longest (seq fs) v g = omega (arith, length-append (preamble (members_of fs) v) (encode_members (members_of fs) v), length-preamble fs v, longest_fields fs v g)
  longest (loose fs) v g = omega (arith, length-append (preamble (members_of fs) v) (encode_members (members_of fs) v), length-preamble fs v, longest_fields fs v g)
  longest (choice t fs) v g =
      let w = width (highest (alternatives_of fs)) in
      omega (arith, length-append (bits_of w (index (alternatives_of fs) v)) (encode_pick (alternatives_of fs) v), length-bits_of w (index (alternatives_of fs) v), longest_pick fs v g)
  longest (many lo hi f) v g =
      let e = length-append (size_bits lo hi (length v)) (joined (λ a. encode (type_of f) a) v) in
      let i = length-size (λ _. 0) 0 lo hi (length v) in
      let j = joined-most (λ a. encode (type_of f) a) (λ a. InRange (type_of f) a) (most f) (λ a y. longest f a y) v g.2 in
      omega (arith, e, i, j, sized-most (length v) lo hi (most f) g.0 g.1)
  longest (inner f) v g =
      let n = length (encode (type_of f) v) in
      omega (arith, length-append (length_bits n) (encode (type_of f) v), length-lengths n, g.0)
  longest (soft m r f) v g = longest f v g
  longest (lax m j f) v g = longest f v g

  pub longest_fields : (fs : Flds) (vs : Values (members_of fs)) → AllInRange (members_of fs) vs → length (encode_members (members_of fs) vs) ≤ most_fields fs
  longest_fields end vs g = omega arith
  longest_fields (f ⨾ fs) vs g = omega (arith, length-append (encode (type_of f) vs.0) (encode_members (members_of fs) vs.1), longest f vs.0 g.0, longest_fields fs vs.1 g.1)
  longest_fields (f ⨾? fs) vs g =
      omega (arith, length-append (if_any (λ a. encode (type_of f) a) vs.0) (encode_members (members_of fs) vs.1), any_most (λ a. encode (type_of f) a) (λ a. InRange (type_of f) a) (most f) (λ a y. longest f a y) vs.0 g.0, longest_fields fs vs.1 g.1)
  longest_fields (or_note t y s f fs) vs g =
      omega (arith, length-append (if_any (λ a. encode (type_of f) a) vs.0) (encode_members (members_of fs) vs.1), any_most (λ a. encode (type_of f) a) (λ a. InRange (type_of f) a) (most f) (λ a y. longest f a y) vs.0 g.0, longest_fields fs vs.1 g.1)
  longest_fields (unread t fs) (none, vs) g = longest_fields fs vs g.1
  longest_fields (unread t fs) (some v, vs) g = absurd v

  pub longest_pick : (fs : Alts) (v : Pick (alternatives_of fs)) → PickInRange (alternatives_of fs) v → length (encode_pick (alternatives_of fs) v) ≤ most_alts fs
  longest_pick none_left v g = absurd v
  longest_pick (f ∥ fs) (inl v) g = omega (arith, longest f v g)
  longest_pick (f ∥ fs) (inr v) g = omega (arith, longest_pick fs v g)
